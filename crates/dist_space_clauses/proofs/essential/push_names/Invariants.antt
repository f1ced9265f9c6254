use Rattle.dist_space_clauses.specs.GatheringPrivate.{IsNamedFront}
use Rattle.dist_space_clauses.proofs.essential.push_names.Given as goal

-- the clauses of the names of the packages so far were added
abbrev pub invariant-loop-number : goal.invariant-loop-number
invariant-loop-number l = IsNamedFront l.space l.number l.initial.set l.set
