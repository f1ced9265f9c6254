-- Where a clause can be false: only where the variables of all its negative literals are true.
use Rattle.std.specs.Prelude.{◌≡◌, ◌⊎◌, ℕ, ◌<◌, ◌≤◌, Bool, List, Contains, false, length, slice_index_or}
use Rattle.dist_clause.specs.ClauseList.{clause_at}
use Rattle.dist_clause.specs.Formula.{Literal, literal, MakesTrue}
use Rattle.dist_derive.specs.Follows.{IsNumberOf}

-- the variable is that of a negative literal of the clause, or 0
abbrev pub IsDenied : List Literal → ℕ → Type 0
IsDenied clause variable = (variable ≡ 0) ⊎ Contains clause (literal variable false)

-- Each pair has the number of a clause, and each clause is in a pair with the variable of one of its negative literals,
-- or with 0.
pub record AreDenialsOf (clauses : List (List Literal)) (pairs : List (ℕ × ℕ)) : Type 0 where
  pub numbers : (variable number : ℕ) → Contains pairs (variable, number) → IsNumberOf clauses number
  pub each : (number : ℕ) → IsNumberOf clauses number
      → (variable : ℕ) × Contains pairs (variable, number) × IsDenied (clause_at clauses number) variable

-- the pairs before a place have lower variables, and those from there on have none
pub record StartsAt (pairs : List (ℕ × ℕ)) (variable place : ℕ) : Type 0 where
  pub before : (k : ℕ) (d : ℕ × ℕ) → k < place → (slice_index_or pairs k d).0 < variable
  pub behind : (k : ℕ) (d : ℕ × ℕ) → place ≤ k → k < length pairs → variable ≤ (slice_index_or pairs k d).0

-- the clauses of the pairs from a place on, and before another, are true
abbrev pub AreTrueWithin : (ℕ → Bool) → List (List Literal) → List (ℕ × ℕ) → ℕ → ℕ → Type 0
AreTrueWithin value clauses pairs place next = (k : ℕ) → place ≤ k → k < next → k < length pairs
    → MakesTrue value (clause_at clauses (slice_index_or pairs k (0, 0)).1)
