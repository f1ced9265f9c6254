-- Fronts of a text: what stands where a writing was cut off.
use Rattle.std.specs.Prelude.{◌≡◌, ℕ, ◌≤◌, List, length, take}

-- some first elements of a list, perhaps none, perhaps all
pub record IsFrontOf {X : Type 0} (whole front : List X) : Type 0 where
  pub count : ℕ
  pub within : count ≤ length whole
  pub is : front ≡ take count whole
