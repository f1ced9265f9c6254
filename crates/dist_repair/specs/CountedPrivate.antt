-- The way to the clauses that count.
use Rattle.std.specs.Prelude.{◌≡◌, ℕ, ◌<◌, ◌≤◌, List, ◌++◌, length, take}
use Rattle.dist_clause.specs.ClauseList.{ClauseList, literal_count}
use Rattle.dist_clause.specs.Formula.{Literal}
use Rattle.dist_clause.specs.declared.clause_set.PushError.{PushError}
use Rattle.dist_clause.specs.declared.clause_set.PushError.TheVariants.{TooManyClauses, TooManyLiterals, NoMemory}

-- which limit the clauses of a list pass first
abbrev pub IsStoppedIn : (clause_limit literal_limit : ℕ) → List (List Literal) → PushError → Type 0
IsStoppedIn clause_limit literal_limit whole TooManyClauses = (clause_limit < length whole)
    × (literal_count (take clause_limit whole) ≤ literal_limit)
IsStoppedIn clause_limit literal_limit whole TooManyLiterals = literal_limit < literal_count (take clause_limit whole)
IsStoppedIn clause_limit literal_limit whole NoMemory = Unit {0}

-- that is passed first, whatever stands behind these clauses
abbrev pub StopsWith : ClauseList → List (List Literal) → PushError → Type 0
StopsWith set clauses error = (rest : List (List Literal))
    → IsStoppedIn set.clause_limit set.literal_limit (set.clauses ++ (clauses ++ rest)) error

-- the set has these clauses more
abbrev pub HasMore : (old new : ClauseList) → List (List Literal) → Type 0
HasMore old new clauses = new ≡ record old { clauses = old.clauses ++ clauses }
