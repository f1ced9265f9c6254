-- Rows of truth values: a list of them, places counted from 0.
use Rattle.std.specs.Prelude.{◌≡◌, ◌&&◌, ℕ, ◌<◌, ◌≤◌, Bool, true, false, List, [], ◌∷◌, refl, slice_index_or}
use Rattle.std.specs.Simd.Lanes.{zip2}

-- the value at a place, and false behind the last one
abbrev pub value_at : List Bool → ℕ → Bool
value_at row place = slice_index_or row place false

-- place by place, what is true in both rows
abbrev pub both : List Bool → List Bool → List Bool
both = zip2 (λ a b. a && b)

-- each true place of the first row is true in the second
abbrev pub IsSubset : List Bool → List Bool → Type 0
IsSubset row other = (k : ℕ) → value_at row k ≡ true → value_at other k ≡ true

-- some place is true in both
abbrev pub Meets : List Bool → List Bool → Type 0
Meets row other = (k : ℕ) × (value_at row k ≡ true) × (value_at other k ≡ true)

-- no place is true
abbrev pub IsAllFalse : List Bool → Type 0
IsAllFalse row = (k : ℕ) → value_at row k ≡ false

-- from one place up to another each is false
abbrev pub AreFalseUpTo : List Bool → ℕ → ℕ → Type 0
AreFalseUpTo row from to = (k : ℕ) → from ≤ k → k < to → value_at row k ≡ false

both_example : both (true ∷ true ∷ false ∷ []) (true ∷ false ∷ false ∷ []) ≡ true ∷ false ∷ false ∷ []
both_example = refl
