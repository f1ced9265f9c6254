use Rattle.dist_future.specs.MatchingPrivate.{IsChangeAt}
use Rattle.dist_future.proofs.Leasts.{IsNoneTo}
use Rattle.dist_future.proofs.no_future.change_held.Given as goal

-- none so far
abbrev pub invariant-loop-variable : goal.invariant-loop-variable
invariant-loop-variable l = IsNoneTo (IsChangeAt l.space l.members) l.variable
