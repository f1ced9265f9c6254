-- A set of variables, as the cone of assumptions is given.
use Rattle.std.specs.Prelude.{◌≡◌, ◌≤◌, ◌↔◌, ℕ, Bool, true, List, Contains}

-- members of a set of the variables from 1 to `variables`, in the order in which they came
pub record VariableList : Type 0 where
  pub variables : ℕ
  pub members : List ℕ

-- the assignment in which exactly the members are true
abbrev pub GivesTrue : (ℕ → Bool) → List ℕ → Type 0
GivesTrue value members = (v : ℕ) → 1 ≤ v → ((value v ≡ true) ↔ Contains members v)
