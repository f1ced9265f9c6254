use Rattle.std.proofs.Common.{◌≡◌, ◌-◌, ◌≤◌, take}
use Rattle.dist_version.proofs.order.equal_steps.Given as goal

-- so far both begin with the same bytes
abbrev pub invariant-loop-end : goal.invariant-loop-end
invariant-loop-end l = (l.end ≤ l.shorter) × (take l.end l.fn.a ≡ take l.end l.fn.b)

abbrev pub decreases-loop-end : goal.decreases-loop-end
decreases-loop-end l = l.shorter - l.end
