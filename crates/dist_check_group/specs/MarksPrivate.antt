-- Serves private contracts: numbers that are marked by their places, or listed.
use Rattle.std.specs.Prelude.{ℕ, ◌||◌, Bool, false, List, slice_index_or}
use Rattle.dist_cert.specs.Rising.{is_among}

-- whether each number below a bound is in, and the other numbers that are
pub record MarksView : Type 0 where
  pub places : List Bool
  pub others : List ℕ

-- the number is in
abbrev pub is_marked : MarksView → ℕ → Bool
is_marked marks number = slice_index_or marks.places number false || is_among marks.others number
