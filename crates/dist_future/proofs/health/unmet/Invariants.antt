use Rattle.dist_future.specs.FutureHealth.{IsUnmetAt}
use Rattle.dist_future.proofs.Leasts.{IsNoneBelow}
use Rattle.dist_future.proofs.health.unmet.Given as goal

-- the rows so far have none
abbrev pub invariant-loop-variable : goal.invariant-loop-variable
invariant-loop-variable l = IsNoneBelow (IsUnmetAt l.space l.members) l.variable
