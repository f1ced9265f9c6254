use Rattle.std.proofs.Common.{ℕ, ◌<◌, ◌≤◌, length, get_or}
use Rattle.dist_search.proofs.trail.Trail.levels_to.Given as goal

abbrev pub invariant-loop-levels : goal.invariant-loop-levels
invariant-loop-levels l = (l.levels ≤ length l.self.starts)
    × ((k : ℕ) → l.levels ≤ k → k < length l.self.starts → l.place < get_or l.self.starts k 0)

abbrev pub decreases-loop-levels : goal.decreases-loop-levels
decreases-loop-levels l = l.levels
