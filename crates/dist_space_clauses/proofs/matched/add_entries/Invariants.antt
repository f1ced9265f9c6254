use Rattle.std.proofs.Common.{◌≡◌, take}
use Rattle.std.specs.Prelude.{Any}
use Rattle.dist_space_clauses.specs.GatheringPrivate.{Gathers, IsLaterOf}
use Rattle.dist_space.specs.declared.meaning.Meaning.TheVariants.{Kept}
use Rattle.dist_space_clauses.proofs.MatchLemmas.{MatchedAnd}
use Rattle.dist_space_clauses.proofs.matched.add_entries.Given as goal

-- the entries so far that the atom matches were added
abbrev pub invariant-loop-place : goal.invariant-loop-place
invariant-loop-place l =
    Gathers l.space l.initial.variables.items l.variables.items (MatchedAnd l.space l.atom (IsLaterOf l.member))
    (λ m. Any (λ place. MatchedAnd l.space l.atom (λ x. x ≡ Kept l.member l.class place) m) (take l.place-index l.places))
