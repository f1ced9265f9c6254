-- Clauses with their literals in another order, and how many first literals such a row shares with the one before.
use Rattle.std.specs.Prelude.{◌≡◌, ℕ, ◌+◌, ◌<◌, ◌≤◌, List, Contains, length, slice_index, slice_index_or}
use Rattle.dist_clause.specs.ClauseList.{clause_at}
use Rattle.dist_clause.specs.Formula.{Literal}

pub record RowLists : Type 0 where
  pub rows : List (List Literal)
  pub fronts : List ℕ

-- a literal stands at a place of a row
abbrev pub StandsAt : List Literal → ℕ → Literal → Type 0
StandsAt row place l = (place < length row) × (slice_index_or row place l ≡ l)

-- the row of a pair's clause
abbrev pub row_of : List (List Literal) → List (ℕ × ℕ) → ℕ → List Literal
row_of rows pairs place = clause_at rows (slice_index_or pairs place (0, 0)).1

-- each clause has a row, and in it no other literals
pub record AreRowsOf (clauses rows : List (List Literal)) : Type 0 where
  pub count : length rows ≡ length clauses
  pub members : (number : ℕ) (l : Literal) → Contains (clause_at rows number) l → Contains (clause_at clauses number) l

-- so many first literals of a pair's row are those of the row before it
abbrev pub AreFrontsOf : List (List Literal) → List (ℕ × ℕ) → List ℕ → Type 0
AreFrontsOf rows pairs fronts = (k p : ℕ) (l : Literal) → p < slice_index fronts (k + 1)
    → StandsAt (row_of rows pairs k) p l → StandsAt (row_of rows pairs (k + 1)) p l

-- up to where one jumps to from a place, no front is shorter than there
abbrev pub AreJumpsOf : List ℕ → List ℕ → Type 0
AreJumpsOf fronts jumps = (k i : ℕ) → k < i → i < slice_index jumps k → slice_index fronts k ≤ slice_index fronts i

-- rows of the clauses, in the order of the pairs
pub record AreAlike (clauses : List (List Literal)) (pairs : List (ℕ × ℕ)) (lists : RowLists) : Type 0 where
  pub rows : AreRowsOf clauses lists.rows
  pub fronts : AreFrontsOf lists.rows pairs lists.fronts
