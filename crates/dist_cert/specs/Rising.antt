-- Rising lists of numbers.
use Rattle.std.specs.Prelude.{◌==◌, ℕ, ◌<◌, Bool, List, AllPairs}
use Rattle.std.specs.List.{list_any}

-- each number is below all later ones
abbrev pub AreRising : List ℕ → Type 0
AreRising numbers = AllPairs (λ a b. a < b) numbers

-- the number is one of the list
abbrev pub is_among : List ℕ → ℕ → Bool
is_among numbers number = list_any (λ n. number == n) numbers
