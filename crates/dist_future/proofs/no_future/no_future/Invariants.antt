use Rattle.dist_future.specs.FutureHealth.{AreNoFuture}
use Rattle.dist_future.proofs.Leasts.{IsNoneBelow}
use Rattle.dist_future.proofs.no_future.no_future.Given as goal

-- the rows so far have none
abbrev pub invariant-loop-first : goal.invariant-loop-first
invariant-loop-first l = IsNoneBelow (AreNoFuture l.space l.members) l.first
