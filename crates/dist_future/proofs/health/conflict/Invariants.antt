use Rattle.dist_future.proofs.ConflictPairs.{IsLeastSeenIfAny}
use Rattle.dist_future.proofs.health.conflict.Given as goal

-- the least pair of the variables so far
abbrev pub invariant-loop-variable : goal.invariant-loop-variable
invariant-loop-variable l = IsLeastSeenIfAny l.space l.members l.variable l.least
