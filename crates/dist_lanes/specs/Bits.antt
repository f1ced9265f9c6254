-- Truth values kept as bits, 64 in a word.
use Rattle.std.specs.Prelude.{◌≡◌, ◌≢◌, ◌==◌, ℕ, ◌/◌, ◌%◌, Bool, true, false, List, [], ◌∷◌, map, length, slice_index}
use Rattle.std.specs.Prelude.{refl}
use Rattle.std.specs.List.{range_with_len}
use Rattle.std.specs.Int.{bit_at}

-- the bit at a place
abbrev pub bit : List ℕ → ℕ → Bool
bit words place = bit_at (slice_index words (place / 64)) (place % 64) == 1

-- the first n bits
abbrev pub bits : List ℕ → ℕ → List Bool
bits words n = map (bit words) (range_with_len 0 n)

-- the bit at a place is set to a value, and the others stay
pub record SetsBit (old new : List ℕ) (place : ℕ) (value : Bool) : Type 0 where
  pub same_length : length new ≡ length old
  pub changed : bit new place ≡ value
  pub others : (k : ℕ) → k ≢ place → bit new k ≡ bit old k

bits_example : bits (6 ∷ []) 4 ≡ false ∷ true ∷ true ∷ false ∷ []
bits_example = refl
