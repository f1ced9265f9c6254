-- What holds of numbers behind one, one after another.
use Rattle.std.proofs.Common.{◌≡◌, inl, inr, ℕ, ◌+◌, ◌<◌, ◌≤◌, subst, arith}
use Rattle.std.proofs.lemmas.Bool.{cases_lt}

pub range-more : (P : ℕ → Type 0) (last before : ℕ) → ((number : ℕ) → last < number → number ≤ before → P number) → P (before + 1) → (number : ℕ)
    → last < number → number ≤ before + 1 → P number
range-more P last before earlier here number past upto = elim (cases_lt number (before + 1)) [
  | inl less ↦ earlier number past (omega arith)
  | inr more ↦ let same : before + 1 ≡ number = omega arith in subst P same here
]
