-- What a clause set holds: a list of clauses, the number of its variables, and its two limits.
use Rattle.std.specs.Prelude.{ℕ, ◌-◌, ◌≤◌, List, [], length, All, sum_by, slice_index_or}
use Rattle.dist_clause.specs.Formula.{Literal, IsClauseOver}

-- a clause set as contracts see it: its clauses, variables and limits
pub record ClauseList : Type 0 where
  pub clauses : List (List Literal)
  pub variables : ℕ
  pub clause_limit : ℕ
  pub literal_limit : ℕ

-- the clause of a number, where the first has the number 1
abbrev pub clause_at : List (List Literal) → ℕ → List Literal
clause_at clauses number = slice_index_or clauses (number - 1) []

-- how many literals the clauses have together
abbrev pub literal_count : List (List Literal) → ℕ
literal_count clauses = sum_by (λ c. length c) clauses

-- the limits are kept, and each clause is over the set's variables
pub record IsWithinLimits (set : ClauseList) : Type 0 where
  pub clauses_within : length set.clauses ≤ set.clause_limit
  pub literals_within : literal_count set.clauses ≤ set.literal_limit
  pub over_variables : All (IsClauseOver set.variables) set.clauses
