use Rattle.std.proofs.Common.{◌-◌, ◌<◌, ◌≤◌, length}
use Rattle.dist_now.proofs.rejections.next_rejections.Given as goal

-- the span is not empty, and ends within the packages
abbrev pub invariant-halving : goal.invariant-halving
invariant-halving l = (l.start < l.end) × (l.end ≤ length l.repo.packages)

abbrev pub decreases-halving : goal.decreases-halving
decreases-halving l = l.end - l.start
