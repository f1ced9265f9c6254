-- Which places of a list of atoms are asked.
use Rattle.std.specs.Prelude.{◌≡◌, ℕ, Bool, true, List, Some, Contains, slice_get, slice_index_or}
use Rattle.dist_relation.specs.declared.atom.Atom.{Atom}
use Rattle.dist_asked.specs.Within.{IsWithin}

-- the place is asked, by its mark, or because it has none
abbrev pub IsPlaceAsked : List Bool → ℕ → Type 0
IsPlaceAsked marks place = slice_index_or marks place true ≡ true

-- at a place that is asked stands an atom that an atom is within
pub record HasWider (atoms : List Atom) (marks : List Bool) (atom : Atom) : Type 0 where
  pub place : ℕ
  pub wider : Atom
  pub is_wider : slice_get atoms place ≡ Some wider
  pub is_asked : IsPlaceAsked marks place
  pub within : IsWithin atom wider

-- The places that are asked are enough: each atom of the list is within one of theirs.
abbrev pub AreEnough : List Atom → List Bool → Type 0
AreEnough atoms marks = (atom : Atom) → Contains atoms atom → HasWider atoms marks atom
