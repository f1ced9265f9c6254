-- The input clauses that say what a future is.
use Rattle.std.specs.Prelude.{ℕ, Bool, List, take, drop}
use Rattle.dist_clause.specs.Formula.{Literal, IsModel}
use Rattle.dist_line_check.specs.declared.future.FutureClauses.{FutureClauses}

-- The assignment stands for a future: the clauses up to one number are true, and those behind another up to a last.
abbrev pub StandsForFuture : FutureClauses → (ℕ → Bool) → List (List Literal) → Type 0
StandsForFuture which value clauses = IsModel value (take which.upto clauses)
    × IsModel value (drop which.behind (take which.last clauses))
