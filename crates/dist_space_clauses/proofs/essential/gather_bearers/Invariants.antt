use Rattle.std.proofs.Common.{◌≡◌, ◌⊎◌, []}
use Rattle.dist_space_clauses.specs.GatheringPrivate.{Gathers}
use Rattle.dist_space_clauses.specs.SpaceClauses.{IsBearer}
use Rattle.dist_space.specs.declared.meaning.Meaning.TheVariants.{New, Present}
use Rattle.dist_space_clauses.proofs.Gathered.{UpTo}
use Rattle.dist_space_clauses.proofs.essential.gather_bearers.Given as goal

-- the package and its new versions of the classes so far were added
abbrev pub invariant-loop-class : goal.invariant-loop-class
invariant-loop-class l = Gathers l.space [] l.variables.items (IsBearer l.space l.package.name)
    (λ m. (m ≡ Present l.number) ⊎ UpTo l.space (λ class x. x ≡ New l.number class) l.class m)
