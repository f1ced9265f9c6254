use Rattle.std.proofs.Common.{◌≡◌, take}
use Rattle.std.specs.Prelude.{Any}
use Rattle.dist_space_clauses.specs.GatheringPrivate.{Gathers, IsPresentMatched}
use Rattle.dist_space.specs.declared.meaning.Meaning.TheVariants.{Present}
use Rattle.dist_space_clauses.proofs.items.add_offered.Given as goal

-- the packages of those so far were added
abbrev pub invariant-loop-offer : goal.invariant-loop-offer
invariant-loop-offer l =
    Gathers l.space l.initial.variables.items l.variables.items (IsPresentMatched l.space l.atom)
    (λ m. Any (λ offer. m ≡ Present offer.number) (take l.offer-index l.offers))
