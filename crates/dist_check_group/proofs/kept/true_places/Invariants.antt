use Rattle.std.proofs.Common.{◌≡◌, ◌-◌, ◌≤◌, filter, length}
use Rattle.std.specs.List.{range_with_len}
use Rattle.dist_lanes.specs.Rows.{value_at}
use Rattle.dist_check_group.proofs.kept.true_places.Given as goal

abbrev pub invariant-places : goal.invariant-places
invariant-places l = record {
  within : l.from ≤ length l.row;
  found : l.places.items ≡ filter (value_at l.row) (range_with_len 0 l.from);
}

abbrev pub decreases-places : goal.decreases-places
decreases-places l = length l.row - l.from
