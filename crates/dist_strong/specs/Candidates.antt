-- The candidates of a group as a row.
use Rattle.std.specs.Prelude.{◌≡◌, ◌↔◌, ℕ, ◌≤◌, Bool, true, List, length}
use Rattle.dist_clause.specs.Formula.{value_of}
use Rattle.dist_strong.specs.Group.{GroupView, IsCandidate}
use Rattle.dist_sweep.specs.Window.{WindowView}

-- The row is true at the candidates, and nowhere else.
pub record AreCandidates (w : WindowView) (group : GroupView) (row : List Bool) : Type 0 where
  pub size : length row ≡ group.variables
  pub exact : (q : ℕ) → 1 ≤ q → q ≤ group.variables → (value_of row q ≡ true) ↔ IsCandidate w group q
