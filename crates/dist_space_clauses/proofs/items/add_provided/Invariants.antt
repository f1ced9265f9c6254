use Rattle.std.proofs.Common.{◌≡◌, take}
use Rattle.std.specs.Prelude.{Any}
use Rattle.dist_space_clauses.specs.GatheringPrivate.{Gathers, IsPresentMatched}
use Rattle.dist_space.specs.declared.meaning.Meaning.TheVariants.{Present}
use Rattle.dist_space_clauses.proofs.items.add_provided.Given as goal

-- those so far were added
abbrev pub invariant-loop-number : goal.invariant-loop-number
invariant-loop-number l =
    Gathers l.space l.initial.variables.items l.variables.items (IsPresentMatched l.space l.atom)
    (λ m. Any (λ number. m ≡ Present number) (take l.number-index l.providers))
