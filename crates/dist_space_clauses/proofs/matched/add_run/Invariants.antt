use Rattle.std.proofs.Common.{◌≡◌}
use Rattle.std.specs.Prelude.{Any}
use Rattle.dist_space.specs.declared.meaning.Meaning.TheVariants.{Kept}
use Rattle.dist_space_clauses.specs.GatheringPrivate.{Gathers, IsLaterOf}
use Rattle.dist_space_clauses.proofs.Gathered.{UpTo}
use Rattle.dist_space_clauses.proofs.MatchLemmas.{MatchedAnd}
use Rattle.dist_space_clauses.proofs.matched.add_run.Given as goal

-- the entries of the classes so far were added
abbrev pub invariant-loop-class : goal.invariant-loop-class
invariant-loop-class l =
    Gathers l.space l.initial.variables.items l.variables.items (MatchedAnd l.space l.atom (IsLaterOf l.member))
    (UpTo l.space (λ class m. Any (λ place. MatchedAnd l.space l.atom (λ x. x ≡ Kept l.member class place) m) l.places) l.class)
