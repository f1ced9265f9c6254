use Rattle.dist_future.specs.FutureHealth.{IsMissing}
use Rattle.dist_future.proofs.Leasts.{IsNoneTo}
use Rattle.dist_future.proofs.health.missing.Given as goal

-- none so far
abbrev pub invariant-loop-number : goal.invariant-loop-number
invariant-loop-number l = IsNoneTo (IsMissing l.space l.members) l.number
