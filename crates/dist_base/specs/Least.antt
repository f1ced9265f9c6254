-- The least of numbers, or of pairs of numbers in the order of their first and then of their second.
use Rattle.std.specs.Prelude.{◌≡◌, ◌⊎◌, ℕ, ◌<◌, ◌≤◌, Option, Some, MatchOption}

abbrev pub IsAtMost : (first second n k : ℕ) → Type 0
IsAtMost first second n k = (first < n) ⊎ ((first ≡ n) × (second ≤ k))

-- a pair with a property, and no lesser one has it
pub record IsLeastPair (P : ℕ → ℕ → Type 0) (first second : ℕ) : Type 0 where
  pub holds : P first second
  pub least : (n k : ℕ) → P n k → IsAtMost first second n k

-- no pair has the property
abbrev pub IsNoPair : (ℕ → ℕ → Type 0) → Type 0
IsNoPair P = (n k : ℕ) → ¬ P n k

-- the number has the property, and no lesser one has it
pub record IsLeast (P : ℕ → Type 0) (number : ℕ) : Type 0 where
  pub holds : P number
  pub least : (n : ℕ) → P n → number ≤ n

-- the least number, or the least pair, with a property, if there is one
abbrev pub IsLeastIfAny : (ℕ → Type 0) → Option ℕ → Type 0
IsLeastIfAny P found = MatchOption found ((n : ℕ) → ¬ P n) (IsLeast P)

abbrev pub IsLeastPairIfAny : (ℕ → ℕ → Type 0) → Option (ℕ × ℕ) → Type 0
IsLeastPairIfAny P found = MatchOption found (IsNoPair P) (λ pair. IsLeastPair P pair.0 pair.1)

-- one of two pairs, the first of which may be missing, and at most each of them
pub record IsLesserPair (least : Option (ℕ × ℕ)) (first second : ℕ) (pair : ℕ × ℕ) : Type 0 where
  pub one : (least ≡ Some pair) ⊎ ((pair.0 ≡ first) × (pair.1 ≡ second))
  pub at_most_other : IsAtMost pair.0 pair.1 first second
  pub at_most_least : (n k : ℕ) → least ≡ Some (n, k) → IsAtMost pair.0 pair.1 n k
