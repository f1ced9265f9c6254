-- Which versions stand in bounds on which name, while the atoms are gone through. No public clause cites it.
use Rattle.std.specs.Prelude.{◌≡◌, ◌≢◌, ◌⊎◌, ◌↔◌, ◌≤◌, ℕ, List, Option, Some, false, Any, Contains, IsSomeAnd}
use Rattle.std.specs.Prelude.{slice_get}
use Rattle.std.specs.Cmp.Lexicographic.{slice_cmp}
use Rattle.std.specs.List.Sorted.{IsSorted}
use Rattle.std.specs.Ordering.{is_lt, nat_cmp, ordering_then}
use Rattle.std.specs.declared.cmp.Ordering.{Ordering}
use Rattle.std.specs.declared.cmp.Ordering.TheVariants.{Less, Equal}
use Rattle.dist_version.specs.Order.{version_cmp}
use Rattle.dist_relation.specs.declared.atom.Atom.{Atom}
use Rattle.dist_repo.specs.Match.{IsUsable}
use Rattle.dist_repo.specs.PackageList.{PackageList}
use Rattle.dist_repo.specs.declared.package.Package.{Package}
use Rattle.dist_classes.specs.Atoms.{IsBoundOn}
use Rattle.dist_classes.specs.SortedPrivate.{text_cmp}

-- names, each with a version in a bound on it
abbrev pub Entry : Type 0
Entry = List ℕ × List ℕ

abbrev pub Entries : Type 0
Entries = List Entry

-- by name and version
abbrev pub key_cmp : Entry → Entry → Ordering
key_cmp a b = ordering_then (slice_cmp nat_cmp a.0 b.0) (version_cmp a.1 b.1)

-- by name, by version, and equal versions by their texts
abbrev pub bound_cmp : Entry → Entry → Ordering
bound_cmp a b = ordering_then (slice_cmp nat_cmp a.0 b.0) (text_cmp a.1 b.1)

-- beside each name the versions that go with it are there too
abbrev pub Notes : (old new : Entries) → (List ℕ → List ℕ → Type 0) → Type 0
Notes old new P = (q v : List ℕ) → Contains new (q, v) ↔ (Contains old (q, v) ⊎ P q v)

-- a usable atom on this name with this version in its bound
abbrev pub IsAtomBound : Option (List ℕ) → List ℕ → List ℕ → Atom → Type 0
IsAtomBound architecture name version atom = IsUsable architecture atom.qualifier × (atom.name ≡ name)
    × IsSomeAnd atom.bound (λ bound. bound.version ≡ version)

-- some atom of the package is one
abbrev pub IsPackageBound : Option (List ℕ) → List ℕ → List ℕ → Package → Type 0
IsPackageBound architecture name version p =
    Any (λ item. Any (IsAtomBound architecture name version) item) p.depends
    ⊎ Any (IsAtomBound architecture name version) p.conflicts

-- beside each name are the versions that the atoms of the repository have in their bounds on it
abbrev pub HasBounds : PackageList → Entries → Type 0
HasBounds r table = (q v : List ℕ) → Contains table (q, v) ↔ IsBoundOn r (λ name. name ≡ q) v

-- bounds by name, version and text: beside each name are the versions that the atoms of the repository have in their
-- bounds on it
pub record IsTableOf (r : PackageList) (table : Entries) : Type 0 where
  pub sorted : IsSorted bound_cmp table
  pub exact : HasBounds r table

-- the version stands beside the name from the place on
abbrev pub StandsFrom : Entries → ℕ → (name version : List ℕ) → Type 0
StandsFrom table place name version = (j : ℕ) × (place ≤ j) × (slice_get table j ≡ Some (name, version))

-- from the place on, and behind lesser names, stand these versions beside the name
pub record IsStart (table : Entries) (name : List ℕ) (place : ℕ) (Has : List ℕ → Type 0) : Type 0 where
  pub versions : (v : List ℕ) → StandsFrom table place name v ↔ Has v
  pub behind : (entry : Entry) → slice_get table place ≡ Some entry → is_lt (slice_cmp nat_cmp entry.0 name) ≡ false

-- the texts of another set are added to what was found
abbrev pub Adds : (old new : List (List ℕ)) → (List ℕ → Type 0) → Type 0
Adds old new P = (v : List ℕ) → Contains new v ↔ (Contains old v ⊎ P v)

-- the other text is of an equal version, and the text isn't less
abbrev pub HasLess : (text other : List ℕ) → Type 0
HasLess text other = (version_cmp text other ≡ Equal) × (slice_cmp nat_cmp text other ≢ Less)

-- texts of another set are added to what was found, so that each version of the set is there in a least text
pub record AddsLeast (old new : List (List ℕ)) (P : List ℕ → Type 0) : Type 0 where
  pub there : (v : List ℕ) → Contains new v → Contains old v ⊎ P v
  pub kept : (v : List ℕ) → Contains old v → Contains new v
  pub least : (v : List ℕ) → P v → Any (HasLess v) new
