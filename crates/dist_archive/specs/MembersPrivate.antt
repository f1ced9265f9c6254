-- Which members of a cluster an archive may hold. No public clause cites it.
use Rattle.std.specs.Prelude.{◌≡◌, ℕ, List, Some, IsTrue, All, Any, Contains, ◌++◌, ◌∷◌, [], ◌⊎◌, length, slice_get}
use Rattle.dist_repo.specs.PackageList.{IsPackageAnd}
use Rattle.dist_repo.specs.declared.package.Package.{Package}
use Rattle.dist_space.specs.Space.{SpaceView}
use Rattle.dist_archive.specs.SlotsPrivate.{AreReplacements, IsKept, is_filled}
use Rattle.dist_archive.specs.Steps.{IsHeld}
use Rattle.dist_archive.specs.declared.members.Members.{Members}
use Rattle.dist_archive.specs.declared.members.Members.TheVariants.{Every, Brought}
use Rattle.dist_archive.specs.declared.slots.Slot.{Slot}
use Rattle.dist_archive.specs.declared.uploads.Change.{Change}

-- the members of a cluster that may be held, of all of them
abbrev pub may_hold : (members : List ℕ) → Members → List ℕ
may_hold members Every = members
may_hold members (Brought numbers) = numbers.items

-- these are members, and nothing is held of the others
pub record IsLeft (members : List ℕ) (slots : List Slot) (numbers : List ℕ) : Type 0 where
  pub within : (k : ℕ) → Contains numbers k → Contains members k
  pub others : (k : ℕ) (slot : Slot) → Contains members k → slice_get slots k ≡ Some slot → IsTrue (is_filled slot)
      → Contains numbers k

-- so it is of each cluster
pub record AreLeft (clusters : List (List ℕ)) (slots : List Slot) (held : List Members) : Type 0 where
  pub beside : length held ≡ length clusters
  pub each : (c : ℕ) (members : List ℕ) (m : Members) → slice_get clusters c ≡ Some members → slice_get held c ≡ Some m
      → IsLeft members slots (may_hold members m)

-- what an archive keeps
pub record IsArchive (s : SpaceView) (slots : List Slot) (names : List Package) (held : List Members) : Type 0 where
  pub kept : IsKept s slots names
  pub left : AreLeft s.clusters.members slots held

-- the number of the package with the name was put behind others, or there is none
abbrev pub IsNamedBehind : (packages : List Package) → (name old new : List ℕ) → Type 0
IsNamedBehind packages name old new =
    ((number : ℕ) × (new ≡ old ++ (number ∷ [])) × IsPackageAnd packages number (λ p. p.name ≡ name))
    ⊎ ((new ≡ old) × (¬ IsHeld packages name))

-- the numbers of the packages of a repository whose names a block has
pub record AreNumbersOf (packages block : List Package) (numbers : List ℕ) : Type 0 where
  pub each : All (λ k. IsPackageAnd packages k (λ p. IsHeld block p.name)) numbers
  pub all : All (λ n. IsHeld packages n.name → Any (λ k. IsPackageAnd packages k (λ p. p.name ≡ n.name)) numbers) block

-- what an upload changes where these members may be held
pub record IsChange (packages block : List Package) (former : List ℕ) (change : Change) : Type 0 where
  pub brought : AreNumbersOf packages block change.brought.items
  pub touched : change.touched.items ≡ former ++ change.brought.items
  pub replaced : AreReplacements packages block change.touched.items change.slots.items
