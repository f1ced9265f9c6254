-- Clauses that are found by two of their literals.
use Rattle.std.specs.Prelude.{◌≡◌, ◌≢◌, ◌⊎◌, ℕ, false, ◌-◌, ◌≤◌, ◌<◌, List, [], length, map, All, Contains}
use Rattle.std.specs.Prelude.{slice_index, slice_index_or}
use Rattle.dist_clause.specs.Formula.{Literal, literal}
use Rattle.dist_clause.specs.ClauseList.{clause_at}
use Rattle.dist_derive.specs.ContainmentPrivate.{ContainsAll}
use Rattle.dist_derive.specs.Propagation.{IsFalse}
use Rattle.dist_derive.specs.OccurrencesPrivate.{code_of}

-- for each literal's code numbers of clauses, each with its blocker, and for each number, from 1 on, two literals
pub record WatchLists : Type 0 where
  pub lists : List (List (ℕ × Literal))
  pub pairs : List (Literal × Literal)

abbrev pub no_entry : ℕ × Literal
no_entry = (0, literal 0 false)

abbrev pub entries_of : WatchLists → Literal → List (ℕ × Literal)
entries_of watches l = slice_index_or watches.lists (code_of l) []

-- the numbers without their blockers
abbrev pub numbers_in : List (ℕ × Literal) → List ℕ
numbers_in entries = map (λ entry. entry.0) entries

abbrev pub list_of : WatchLists → Literal → List ℕ
list_of watches l = numbers_in (entries_of watches l)

-- two equal literals, where a clause is not watched
abbrev pub pair_in : List (Literal × Literal) → ℕ → Literal × Literal
pair_in pairs number = slice_index_or pairs (number - 1) (literal 0 false, literal 0 false)

abbrev pub pair_of : WatchLists → ℕ → Literal × Literal
pair_of watches number = pair_in watches.pairs number

-- two different literals are this and another, or neither of them is this
abbrev pub HasOther : (Literal × Literal) → Literal → Literal → Type 0
HasOther pair l other = (pair.0 ≢ pair.1) × (((pair.0 ≡ l) × (pair.1 ≡ other)) ⊎ ((pair.1 ≡ l) × (pair.0 ≡ other)))

abbrev pub HasNot : (Literal × Literal) → Literal → Type 0
HasNot pair l = pair.0 ≢ pair.1 → (pair.0 ≢ l) × (pair.1 ≢ l)

-- a number stands in a literal's list at a place, or behind it
abbrev pub Pends : WatchLists → Literal → ℕ → ℕ → Type 0
Pends watches l place number = (k : ℕ) × (place ≤ k) × (k < length (list_of watches l))
    × (slice_index (list_of watches l) k ≡ number)

-- two literals of the clause are watched: its number is in the lists of both
pub record IsWatched (watches : WatchLists) (clause : List Literal) (number : ℕ) : Type 0 where
  pub first : Contains clause (pair_of watches number).0
  pub second : Contains clause (pair_of watches number).1
  pub first_listed : Contains (list_of watches (pair_of watches number).0) number
  pub second_listed : Contains (list_of watches (pair_of watches number).1) number

-- the blocker is a literal of the clause: while it is true, the clause need not be read
abbrev pub Blocks : List (List Literal) → ℕ × Literal → Type 0
Blocks clauses entry = Contains (clause_at clauses entry.0) entry.1

-- each number with two different literals is that of a clause that they watch; lists may have more numbers
pub record AreWatchesOf (watches : WatchLists) (clauses : List (List Literal)) : Type 0 where
  pub watched : (number : ℕ) → 1 ≤ number → (pair_of watches number).0 ≢ (pair_of watches number).1
      → IsWatched watches (clause_at clauses number) number
  pub blocked : (l : Literal) → All (Blocks clauses) (entries_of watches l)

-- a number has the same two literals, or two equal ones before and now
abbrev pub IsPairKept : List (Literal × Literal) → List (Literal × Literal) → ℕ → Type 0
IsPairKept old new number = let was = pair_in old number in let is = pair_in new number in
    (is ≡ was) ⊎ ((was.0 ≡ was.1) × (is.0 ≡ is.1))

-- a number has come into a literal's list with its blocker, or was there
pub record Lists (old new : WatchLists) (l : Literal) (number : ℕ) (blocker : Literal) : Type 0 where
  pub same_pairs : new.pairs ≡ old.pairs
  pub listed : (clauses : List (List Literal)) → AreWatchesOf old clauses → Contains (list_of new l) number
  pub blocked : (clauses : List (List Literal)) → Blocks clauses (number, blocker)
      → ((m : Literal) → All (Blocks clauses) (entries_of old m)) → (m : Literal)
      → All (Blocks clauses) (entries_of new m)
  pub kept : (m : Literal) (n : ℕ) → Contains (list_of old m) n → Contains (list_of new m) n
  pub other_lists : (m : Literal) → m ≢ l → list_of new m ≡ list_of old m

-- neither of the two literals of a number is false by some true ones
pub record IsFree (watches : WatchLists) (trues : List Literal) (number : ℕ) : Type 0 where
  pub apart : (pair_of watches number).0 ≢ (pair_of watches number).1
  pub first_free : ¬ IsFalse trues (pair_of watches number).0
  pub second_free : ¬ IsFalse trues (pair_of watches number).1

-- a literal of the clause is true
abbrev pub HasTrueOne : List Literal → List Literal → Type 0
HasTrueOne trues clause = (l : Literal) × Contains clause l × Contains trues l

-- A clause is guarded by true literals of which some are taken: one of its literals is true, or neither of its two
-- watched ones is false by those that are taken.
abbrev pub IsGuarded : WatchLists → List Literal → List Literal → List Literal → ℕ → Type 0
IsGuarded watches trues seen clause number = HasTrueOne trues clause ⊎ IsFree watches seen number

-- what was free under true literals of those that are given still is
abbrev pub StayFree : WatchLists → WatchLists → List Literal → Type 0
StayFree old new trues = (seen : List Literal) (number : ℕ) → ContainsAll trues seen → 1 ≤ number
    → IsFree old seen number → IsFree new seen number
