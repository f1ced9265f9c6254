use Rattle.dist_space_clauses.specs.GatheringPrivate.{Gathers}
use Rattle.dist_space.specs.Space.{IsMatched, IsMetBy}
use Rattle.dist_space_clauses.proofs.Gathered.{AskedUpTo}
use Rattle.dist_space_clauses.proofs.items.add_asked.Given as goal

-- what the alternatives so far match was added, of those that are asked
abbrev pub invariant-loop-place : goal.invariant-loop-place
invariant-loop-place l = Gathers l.space l.initial.variables.items l.variables.items (IsMetBy l.space l.alternatives)
    (AskedUpTo l.space (IsMatched l.space) l.alternatives l.asked l.place)
