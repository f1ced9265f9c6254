-- Serves private contracts: how the numbers of an installation are kept.
use Rattle.std.specs.Prelude.{ℕ, ◌^◌, ◌≤◌, Bool, List, filter, length}
use Rattle.std.specs.List.{range_with_len}
use Rattle.dist_lanes.specs.Rows.{value_at}
use Rattle.dist_cert.specs.Rising.{AreRising}
use Rattle.dist_check_group.specs.declared.kept.Form.{Form}
use Rattle.dist_check_group.specs.declared.kept.Form.TheVariants.{Listed, Placed}

-- the places of a row that are true
abbrev pub true_places : List Bool → List ℕ
true_places row = filter (value_at row) (range_with_len 0 (length row))

abbrev pub numbers_of : Form → List ℕ
numbers_of (Listed numbers) = numbers.items
numbers_of (Placed row) = true_places row

abbrev pub IsForm : Form → Type 0
IsForm (Listed numbers) = AreRising numbers.items
IsForm (Placed row) = length row ≤ 2 ^ 32
