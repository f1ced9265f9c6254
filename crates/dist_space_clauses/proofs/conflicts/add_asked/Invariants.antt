use Rattle.dist_space_clauses.specs.GatheringPrivate.{Gathers, IsLater}
use Rattle.dist_space.specs.Space.{IsMatched}
use Rattle.dist_space_clauses.specs.SpaceClauses.{Excludes}
use Rattle.dist_space_clauses.proofs.Gathered.{AskedUpTo}
use Rattle.dist_space_clauses.proofs.conflicts.add_asked.Given as goal

-- what the atoms so far match was added, of those that are asked
abbrev pub invariant-loop-place : goal.invariant-loop-place
invariant-loop-place l = Gathers l.space l.initial.variables.items l.variables.items (Excludes l.space l.number l.package)
    (AskedUpTo l.space (λ atom m. IsLater m × IsMatched l.space atom m × Excludes l.space l.number l.package m) l.package.conflicts l.asked l.place)
