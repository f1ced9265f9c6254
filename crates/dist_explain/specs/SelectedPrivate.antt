-- The way to the clauses with selectors.
use Rattle.std.specs.Prelude.{◌≡◌, ℕ, ◌+◌, ◌<◌, take, length}
use Rattle.dist_clause.specs.ClauseList.{ClauseList, literal_count}
use Rattle.dist_clause.specs.declared.clause_set.PushError.{PushError}
use Rattle.dist_clause.specs.declared.clause_set.PushError.TheVariants.{TooManyLiterals, NoMemory}
use Rattle.dist_explain.specs.Selectors.{selected}

-- the set holds the first clauses of another one with their selectors, and may hold them all
pub record IsFront (clauses : ClauseList) (count : ℕ) (set : ClauseList) : Type 0 where
  pub clauses_are : set.clauses ≡ selected clauses.variables (take count clauses.clauses)
  pub variables : set.variables ≡ clauses.variables + length clauses.clauses
  pub clause_limit : set.clause_limit ≡ length clauses.clauses

-- the literals of all clauses and selectors pass a limit, or there is no memory
abbrev pub IsFullAt : ClauseList → ℕ → PushError → Type 0
IsFullAt clauses limit TooManyLiterals = limit < literal_count clauses.clauses + length clauses.clauses
IsFullAt clauses limit NoMemory = Unit {0}
IsFullAt clauses limit error = ⊥
