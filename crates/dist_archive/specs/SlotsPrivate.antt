-- How an archive keeps what it holds: a slot for each package of the repository, and beside them the packages of new
-- names. No public clause cites it.
use Rattle.std.specs.Prelude.{◌≡◌, ℕ, ◌<◌, ◌^◌, Bool, true, false, List, [], ◌∷◌, ◌++◌, Option, None, Some, All}
use Rattle.std.specs.Prelude.{Contains, count_by, length, option_to_list, slice_get, slice_set}
use Rattle.dist_repo.specs.Order.{IsFlat}
use Rattle.dist_repo.specs.declared.package.Package.{Package}
use Rattle.dist_space.specs.Space.{IsSpace, SpaceView}
use Rattle.dist_future.specs.Future.{IsFuture, IsTaken}
use Rattle.dist_archive.specs.Steps.{IsHeld}
use Rattle.dist_archive.specs.declared.slots.Slot.{Slot}
use Rattle.dist_archive.specs.declared.slots.Slot.TheVariants.{Kept, Gone, New}

abbrev pub is_filled : Slot → Bool
is_filled Kept = true
is_filled Gone = false
is_filled (New copy) = true

abbrev pub filled_count : List Slot → ℕ
filled_count slots = count_by is_filled slots

-- what the slot of a package holds
abbrev pub slot_package : Package → Slot → Option Package
slot_package p Kept = Some p
slot_package p Gone = None
slot_package p (New copy) = Some copy.value

-- what the slots of packages hold
abbrev pub standing : List Package → List Slot → List Package
standing [] slots = []
standing (p ∷ packages) [] = []
standing (p ∷ packages) (slot ∷ slots) = option_to_list (slot_package p slot) ++ standing packages slots

-- the slots of these numbers are these now
abbrev pub puts : List ℕ → List Slot → List Slot → List Slot
puts [] slots old = old
puts (number ∷ numbers) [] old = old
puts (number ∷ numbers) (slot ∷ slots) old = slice_set (puts numbers slots old) number slot

-- what takes the place of a package of an uploaded cluster: the package of the block with its name, or nothing
abbrev pub Replaces : (packages : List Package) → Package → Slot → Type 0
Replaces packages q Kept = ⊥
Replaces packages q Gone = ¬ IsHeld packages q.name
Replaces packages q (New copy) = Contains packages copy.value × (copy.value.name ≡ q.name)

-- new versions stand in the slots of their names, and new names are none of the repository
pub record IsKept (s : SpaceView) (slots : List Slot) (names : List Package) : Type 0 where
  pub space : IsSpace s
  pub beside : length slots ≡ length s.repository.packages
  pub named : (k : ℕ) (p : Package) (slot : Slot) (n : Package) → slice_get s.repository.packages k ≡ Some p
      → slice_get slots k ≡ Some slot → slot_package p slot ≡ Some n → n.name ≡ p.name
  pub flat : IsFlat names
  pub untaken : All (λ n. ¬ IsTaken s.repository n.name) names
  pub future : IsFuture s.repository (standing s.repository.packages slots ++ names)
  pub few : length (standing s.repository.packages slots ++ names) < 2 ^ 32

-- what takes the place of each of some packages, in the order of their numbers
pub record AreReplacements (packages block : List Package) (members : List ℕ) (slots : List Slot) : Type 0 where
  pub beside : length slots ≡ length members
  pub each : (i m : ℕ) (q : Package) (slot : Slot) → slice_get members i ≡ Some m → slice_get packages m ≡ Some q
      → slice_get slots i ≡ Some slot → Replaces block q slot
