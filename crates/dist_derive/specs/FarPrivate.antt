-- What lies far from assumptions: variables that some others, the starts, reach through the clauses.
use Rattle.std.specs.Prelude.{◌≡◌, ◌≤◌, ℕ, Bool, IsTrue, List, All}
use Rattle.dist_clause.specs.Formula.{Literal}
use Rattle.dist_derive.specs.VariableSet.{VariableList}
use Rattle.dist_derive.specs.Cone.{IsClosedUnder}
use Rattle.dist_derive.specs.Marking.{HasAll}

pub record FarView : Type 0 where
  pub is_made : Bool
  pub starts : List ℕ
  pub set : VariableList

-- the starts are of the variables, and each closed set that has them has all members of the set
pub record IsFar (clauses : List (List Literal)) (variables : ℕ) (far : FarView) : Type 0 where
  pub same_variables : far.set.variables ≡ variables
  pub in_range : All (λ v. (1 ≤ v) × (v ≤ variables)) far.starts
  pub least : (has : ℕ → Bool) → HasAll has far.starts → IsClosedUnder has clauses → HasAll has far.set.members

-- the same, where there is one
abbrev pub IsFarIfMade : List (List Literal) → ℕ → FarView → Type 0
IsFarIfMade clauses variables far = IsTrue far.is_made → IsFar clauses variables far
