-- Serves private contracts: numbers behind an offset, and which of them is missing.
use Rattle.std.specs.Prelude.{◌≡◌, ◌⊎◌, ◌↔◌, ℕ, ◌+◌, ◌≤◌, List, Contains}
use Rattle.dist_explain.specs.Answered.{IsOnlyMissing}

-- the list has so many numbers, from 1, behind an offset
abbrev pub HasAllBehind : (list : List ℕ) → (offset count : ℕ) → Type 0
HasAllBehind list offset count = (number : ℕ) → 1 ≤ number → number ≤ count → Contains list (offset + number)

-- none is the only one that is missing
abbrev pub IsNoneMissing : (numbers : List ℕ) → (offset : ℕ) → (list : List ℕ) → Type 0
IsNoneMissing numbers offset list = (one : ℕ) → ¬ IsOnlyMissing numbers offset list one

-- the numbers are those of another list and one more
abbrev pub HasOneMore : (old new : List ℕ) → ℕ → Type 0
HasOneMore old new number = (one : ℕ) → Contains new one ↔ (Contains old one ⊎ (one ≡ number))
