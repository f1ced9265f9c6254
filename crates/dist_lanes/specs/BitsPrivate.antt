-- How a row keeps its places in words.
use Rattle.std.specs.Prelude.{◌≡◌, ◌&&◌, ℕ, ◌+◌, ◌/◌, ◌^◌, ◌<◌, ◌≤◌, Bool, false, List, length, slice_index}
use Rattle.dist_lanes.specs.Bits.{bit}

-- each number fits a word
abbrev pub AreWords : List ℕ → Type 0
AreWords words = (k : ℕ) → slice_index words k < 2 ^ 64

-- as many words as the places need, and no bit behind the last place
pub record IsRow (words : List ℕ) (places : ℕ) : Type 0 where
  pub small : places < 2 ^ 64
  pub fitting : length words ≡ (places + 63) / 64
  pub clean : (k : ℕ) → places ≤ k → bit words k ≡ false

-- each bit is the conjunction of two
pub record Conjoins (old other new : List ℕ) : Type 0 where
  pub same_length : length new ≡ length old
  pub each : (k : ℕ) → bit new k ≡ (bit old k && bit other k)

-- each place has the value, and no bit stands behind the last one
pub record FillsPlaces (old new : List ℕ) (places : ℕ) (value : Bool) : Type 0 where
  pub same_length : length new ≡ length old
  pub filled : (k : ℕ) → k < places → bit new k ≡ value
  pub clean : (k : ℕ) → places ≤ k → bit new k ≡ false

-- from one place up to another no bit is set
abbrev pub AreClear : List ℕ → ℕ → ℕ → Type 0
AreClear words from to = (k : ℕ) → from ≤ k → k < to → bit words k ≡ false
