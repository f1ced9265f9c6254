use Rattle.std.proofs.Common.{◌≡◌, ◌+◌, ℕ, length, take}
use Rattle.dist_lanes.specs.Rows.{value_at}
use Rattle.dist_cert.specs.Rising.{is_among}
use Rattle.dist_check_group.proofs.kept.placed.Given as goal

abbrev pub invariant-loop-number : goal.invariant-loop-number
invariant-loop-number l = record {
  places : length l.row ≡ l.last + 1;
  each : (q : ℕ) → value_at l.row q ≡ is_among (take l.number-index l.numbers) q;
}
