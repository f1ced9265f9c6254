use Rattle.dist_space_clauses.specs.GatheringPrivate.{IsFront}
use Rattle.dist_space.specs.Space.{variable_of}
use Rattle.dist_space.specs.declared.meaning.Meaning.TheVariants.{Present}
use Rattle.dist_space_clauses.proofs.items.push_items.Given as goal

-- the clauses of the items so far were added
abbrev pub invariant-loop-place : goal.invariant-loop-place
invariant-loop-place l = IsFront l.space 4 (variable_of l.space (Present l.number)) l.place l.initial.set l.set
