-- Unit propagation: clauses under a list of true literals.
use Rattle.std.specs.Prelude.{◌≢◌, List, All, Contains}
use Rattle.dist_clause.specs.Formula.{Literal, negation}

-- a literal is false where its negation is true, and unset where neither is true
abbrev pub IsFalse : List Literal → Literal → Type 0
IsFalse trues l = Contains trues (negation l)

abbrev pub IsUnset : List Literal → Literal → Type 0
IsUnset trues l = (¬ Contains trues l) × (¬ IsFalse trues l)

-- all literals of the clause are false
abbrev pub AllFalse : List Literal → List Literal → Type 0
AllFalse trues clause = All (IsFalse trues) clause

-- all literals of the clause but l are false
abbrev pub OthersFalse : List Literal → List Literal → Literal → Type 0
OthersFalse trues clause l = All (λ m. m ≢ l → IsFalse trues m) clause

-- a unit clause: l is its only literal that is not false, and it is unset
pub record IsUnit (trues clause : List Literal) (l : Literal) : Type 0 where
  pub member : Contains clause l
  pub unset : IsUnset trues l
  pub others : OthersFalse trues clause l

-- a literal of the clause is true where all others are false
abbrev pub IsPropagated : List Literal → List Literal → Type 0
IsPropagated trues clause = (l : Literal) → Contains clause l → OthersFalse trues clause l → Contains trues l

-- no literal is true together with its negation
abbrev pub IsConsistent : List Literal → Type 0
IsConsistent trues = (l : Literal) → Contains trues l → ¬ IsFalse trues l

-- propagation is at its end without a conflict: no clause is false, and what the clauses give is true
pub record IsSettled (clauses : List (List Literal)) (trues : List Literal) : Type 0 where
  pub consistent : IsConsistent trues
  pub no_conflict : All (λ clause. ¬ AllFalse trues clause) clauses
  pub propagated : All (IsPropagated trues) clauses
