use Rattle.dist_space_clauses.proofs.GroupFronts.{IsPairFront}
use Rattle.dist_space_clauses.proofs.conflicts.push_pairs.Given as goal

-- the clauses of those so far were added
abbrev pub invariant-loop-other : goal.invariant-loop-other
invariant-loop-other l = IsPairFront l.space l.initial.set l.number l.others l.other-index l.set
