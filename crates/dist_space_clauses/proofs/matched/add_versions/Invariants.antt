use Rattle.std.proofs.Common.{◌≡◌}
use Rattle.dist_space.specs.declared.meaning.Meaning.TheVariants.{New}
use Rattle.dist_space_clauses.specs.GatheringPrivate.{Gathers, IsLaterOf}
use Rattle.dist_space_clauses.proofs.Gathered.{UpTo}
use Rattle.dist_space_clauses.proofs.MatchLemmas.{MatchedAnd}
use Rattle.dist_space_clauses.proofs.matched.add_versions.Given as goal

-- the new versions of the classes so far were added
abbrev pub invariant-loop-class : goal.invariant-loop-class
invariant-loop-class l =
    Gathers l.space l.initial.variables.items l.variables.items (MatchedAnd l.space l.atom (IsLaterOf l.member))
    (UpTo l.space (λ class. MatchedAnd l.space l.atom (λ x. x ≡ New l.member class)) l.class)
