-- Where groups of a space's clauses end, so that those that say what a future is can be told from the others.
use Rattle.std.specs.Prelude.{ℕ, ◌≤◌, List, length, take}
use Rattle.dist_clause.specs.Formula.{Literal}
use Rattle.dist_space.specs.Space.{SpaceView}
use Rattle.dist_space_clauses.specs.SpaceClauses.{AreClausesOf, IsDemand, group_of}
use Rattle.dist_space_clauses.specs.declared.ends.FutureEnds.{FutureEnds}

-- the clauses of the groups up to one stand first in the list, and are so many
pub record IsEndOf (s : SpaceView) (group : ℕ) (clauses : List (List Literal)) (count : ℕ) : Type 0 where
  pub within : count ≤ length clauses
  pub are : AreClausesOf s (λ d. IsDemand s d × (group_of d ≤ group)) (take count clauses)

-- How many clauses stand in the groups 1 to 3, 1 to 5, and 1 to 6. The groups 4 and 5 are items and conflicts, and 6
-- is the archive of today.
pub record AreEndsOf (s : SpaceView) (clauses : List (List Literal)) (ends : FutureEnds) : Type 0 where
  pub early : IsEndOf s 3 clauses ends.early
  pub today : IsEndOf s 5 clauses ends.today
  pub after : IsEndOf s 6 clauses ends.after
