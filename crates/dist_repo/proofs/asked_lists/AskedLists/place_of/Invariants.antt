use Rattle.std.proofs.Common.{◌-◌, ◌≤◌, length}
use Rattle.dist_repo.proofs.asked_lists.AskedLists.place_of.Given as goal

-- within the lists
abbrev pub invariant-loop-low : goal.invariant-loop-low
invariant-loop-low l = (l.low ≤ l.high) × (l.high ≤ length l.self-inside.lists.items)

abbrev pub decreases-loop-low : goal.decreases-loop-low
decreases-loop-low l = l.high - l.low
