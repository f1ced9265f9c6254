-- Literals that are true for now, in the order in which they became true.
use Rattle.std.specs.Prelude.{◌≡◌, ◌<◌, ◌≤◌, ◌⊎◌, ℕ, false, List, length, take, All, AllPairs, Contains, slice_index}
use Rattle.std.specs.Prelude.{slice_index_or}
use Rattle.dist_clause.specs.Formula.{Literal, literal, IsClauseOver}
use Rattle.dist_clause.specs.ClauseList.{clause_at}
use Rattle.dist_derive.specs.Propagation.{IsUnit}
use Rattle.dist_derive.specs.Follows.{IsNumberOf}

-- for each true literal the number of the clause that gave it, 0 for an assumption or a decision; the places at which
-- decisions stand; and how many literals propagation has taken
pub record TrailState : Type 0 where
  pub variables : ℕ
  pub literals : List Literal
  pub reasons : List ℕ
  pub starts : List ℕ
  pub head : ℕ

abbrev pub literal_at : List Literal → ℕ → Literal
literal_at literals place = slice_index_or literals place (literal 0 false)

-- no two literals are of one variable, and decisions stand in their order, none behind what propagation has taken
pub record IsOrdered (trail : TrailState) : Type 0 where
  pub over : IsClauseOver trail.variables trail.literals
  pub reasons : length trail.reasons ≡ length trail.literals
  pub rising : AllPairs (λ s t. s < t) trail.starts
  pub decided : All (λ s. s < length trail.literals) trail.starts
  pub taken : All (λ s. s ≤ trail.head) trail.starts
  pub to_end : trail.head ≤ length trail.literals

-- the clause of a literal's reason is unit by it under the literals before it
pub record IsGiven (clauses : List (List Literal)) (trail : TrailState) (place : ℕ) : Type 0 where
  pub number : IsNumberOf clauses (slice_index trail.reasons place)
  pub unit : IsUnit (take place trail.literals) (clause_at clauses (slice_index trail.reasons place))
      (literal_at trail.literals place)

-- the assumptions stand first, and each other literal is a decision, or is given by a clause
pub record IsTrail (clauses : List (List Literal)) (assumptions : List Literal) (trail : TrailState) : Type 0 where
  pub assumed : take (length assumptions) trail.literals ≡ assumptions
  pub behind : All (λ s. length assumptions ≤ s) trail.starts
  pub given : (place : ℕ) → place < length trail.literals → IsGiven clauses trail place
      ⊎ ((slice_index trail.reasons place ≡ 0) × ((place < length assumptions) ⊎ Contains trail.starts place))
