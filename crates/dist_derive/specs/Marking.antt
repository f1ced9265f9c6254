-- How a set of variables is kept, as a list of its members and a mark at each of them, and how it grows.
use Rattle.std.specs.Prelude.{◌≡◌, ◌≢◌, ℕ, ◌+◌, ◌<◌, ◌≤◌, ◌↔◌, Bool, true, false, not, List, [], ◌∷◌, ◌++◌}
use Rattle.std.specs.Prelude.{length, take, All, AllPairs, Contains, count_by}
use Rattle.dist_clause.specs.Formula.{Literal, value_of}
use Rattle.dist_derive.specs.ContainmentPrivate.{ContainsAll}
use Rattle.dist_derive.specs.VariableSet.{VariableList}

-- each member is marked, no other variable is, none is twice a member, and there is room for all variables
pub record AreMarked (marks : List Bool) (members : List ℕ) (capacity : ℕ) : Type 0 where
  pub marked : (v : ℕ) → 1 ≤ v → v ≤ length marks → ((value_of marks v ≡ true) ↔ Contains members v)
  pub in_range : All (λ v. (1 ≤ v) × (v ≤ length marks)) members
  pub distinct : AllPairs (λ v w. v ≢ w) members
  pub counted : length members + count_by not marks ≡ length marks
  pub room : length marks ≤ capacity

-- the test gives true at each variable
abbrev pub HasAll : (ℕ → Bool) → List ℕ → Type 0
HasAll has variables = All (λ v. has v ≡ true) variables

-- a variable is put into a set, which grows by it or has it already
abbrev pub Includes : VariableList → VariableList → ℕ → Bool → Type 0
Includes old new variable false = (new ≡ old) × Contains old.members variable
Includes old new variable true = (new ≡ record old { members = old.members ++ variable ∷ [] })
    × (length new.members ≤ new.variables)

-- a set of variables has grown, or is the same
pub record Grows (old new : VariableList) (grown : Bool) : Type 0 where
  pub same_variables : new.variables ≡ old.variables
  pub kept : ContainsAll new.members old.members
  pub front : (count : ℕ) → count ≤ length old.members → take count new.members ≡ take count old.members
  pub still : grown ≡ false → new ≡ old
  pub more : grown ≡ true → (length old.members < length new.members) × (length new.members ≤ new.variables)

-- a set that has the variables of all negative literals of the clause has all its variables
abbrev pub IsClosedAt : List ℕ → List Literal → Type 0
IsClosedAt members clause = All (λ l. l.positive ≡ false → Contains members l.variable) clause
    → All (λ l. Contains members l.variable) clause
