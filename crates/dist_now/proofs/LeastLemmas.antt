-- Numbers gone through from the least, where none so far has a property.
use Rattle.std.proofs.Common.{ℕ, ◌<◌}

-- no pair of the rows so far
abbrev pub IsNoneBelow : (ℕ → ℕ → Type 0) → ℕ → Type 0
IsNoneBelow P number = (n k : ℕ) → n < number → ¬ P n k

-- no number so far
abbrev pub IsNoneTo : (ℕ → Type 0) → ℕ → Type 0
IsNoneTo P count = (n : ℕ) → n < count → ¬ P n
