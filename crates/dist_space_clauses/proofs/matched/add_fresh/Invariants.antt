use Rattle.std.proofs.Common.{◌≡◌}
use Rattle.dist_space_clauses.specs.GatheringPrivate.{Gathers, IsFresh}
use Rattle.dist_space.specs.declared.meaning.Meaning.TheVariants.{Fresh}
use Rattle.dist_space_clauses.proofs.Gathered.{UpTo}
use Rattle.dist_space_clauses.proofs.MatchLemmas.{MatchedAnd}
use Rattle.dist_space_clauses.proofs.matched.add_fresh.Given as goal

-- the classes so far that the atom matches were added
abbrev pub invariant-loop-class : goal.invariant-loop-class
invariant-loop-class l = Gathers l.space l.initial.variables.items l.variables.items (MatchedAnd l.space l.atom IsFresh)
    (UpTo l.space (λ class. MatchedAnd l.space l.atom (λ m. m ≡ Fresh l.name class)) l.class)
