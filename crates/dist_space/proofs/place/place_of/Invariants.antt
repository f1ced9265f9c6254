use Rattle.std.proofs.Common.{◌-◌, ◌≤◌, length}
use Rattle.dist_space.proofs.NewNames.{IsBetween}
use Rattle.dist_space.proofs.place.place_of.Given as goal

-- the names before the start are less, and those from the end on are not
abbrev pub invariant-loop-start : goal.invariant-loop-start
invariant-loop-start l = (l.start ≤ l.end) × (l.end ≤ length l.names) × IsBetween l.names l.name l.start l.end

abbrev pub decreases-loop-start : goal.decreases-loop-start
decreases-loop-start l = l.end - l.start
