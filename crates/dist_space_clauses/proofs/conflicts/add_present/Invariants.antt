use Rattle.std.proofs.Common.{◌≡◌, take}
use Rattle.std.specs.Prelude.{Any}
use Rattle.dist_space_clauses.specs.GatheringPrivate.{Gathers}
use Rattle.dist_space.specs.declared.meaning.Meaning.TheVariants.{Present}
use Rattle.dist_space_clauses.proofs.conflicts.add_present.Given as goal

-- those so far were added
abbrev pub invariant-loop-other : goal.invariant-loop-other
invariant-loop-other l =
    Gathers l.space l.initial.variables.items l.variables.items (λ m. Any (λ other. m ≡ Present other) l.others)
    (λ m. Any (λ other. m ≡ Present other) (take l.other-index l.others))
