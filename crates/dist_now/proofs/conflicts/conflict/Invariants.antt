use Rattle.dist_now.proofs.ConflictLemmas.{IsLeastSeenIfAny}
use Rattle.dist_now.proofs.conflicts.conflict.Given as goal

-- the least pair of the members so far
abbrev pub invariant-loop-number : goal.invariant-loop-number
invariant-loop-number l = IsLeastSeenIfAny l.repo l.members l.number l.least
