-- The entries of Provides of a package by their names.
use Rattle.std.specs.Prelude.{◌≡◌, ◌↔◌, ◌==◌, ◌&&◌, ℕ, ◌<◌, Bool, true, false, List, [], Option, None, Some, Contains}
use Rattle.std.specs.Prelude.{IsSomeAnd, length}
use Rattle.std.specs.Prelude.{if◌then◌else◌, slice_get, slice_index_or}
use Rattle.std.specs.Cmp.Lexicographic.{slice_cmp}
use Rattle.std.specs.List.Sorted.{IsSortedBy}
use Rattle.std.specs.Option.{option_cmp}
use Rattle.std.specs.Ordering.{is_lt, nat_cmp, ordering_index, ordering_then}
use Rattle.std.specs.declared.cmp.Ordering.{Ordering}
use Rattle.dist_version.specs.Order.{version_cmp}
use Rattle.dist_relation.specs.declared.atom.Atom.{Atom}
use Rattle.dist_relation.specs.declared.atom.Bound.{Bound}
use Rattle.dist_relation.specs.declared.atom.Provide.{Provide}
use Rattle.dist_repo.specs.PackageList.{IsPackageAnd, PackageList}
use Rattle.dist_repo.specs.declared.package.Package.{Package}
use Rattle.dist_space.specs.Space.{IsMatchedBy, SpaceView}
use Rattle.dist_space.specs.Usable.{is_usable}
use Rattle.dist_space.specs.declared.meaning.Meaning.TheVariants.{Kept}

-- the entry at a place of the Provides of a package has the name
abbrev pub IsEntryNamed : List Package → (member : ℕ) → (name : List ℕ) → (place : ℕ) → Type 0
IsEntryNamed packages member name place =
    IsPackageAnd packages member (λ p. IsSomeAnd (slice_get p.provides place) (λ entry. entry.name ≡ name))

-- the name of an entry, if there is one
abbrev pub entry_name : Option Provide → List ℕ
entry_name None = []
entry_name (Some entry) = entry.name

abbrev pub name_at : List Provide → ℕ → List ℕ
name_at provides place = entry_name (slice_get provides place)

-- whether an entry, if there is one, is not usable
abbrev pub is_useless : Option (List ℕ) → Option Provide → Bool
is_useless architecture None = false
is_useless architecture (Some entry) = if is_usable architecture entry.qualifier then false else true

-- 1 for an entry that is not usable
abbrev pub rank_at : Option (List ℕ) → List Provide → ℕ → ℕ
rank_at architecture provides place = if is_useless architecture (slice_get provides place) then 1 else 0

-- the version of an entry, if there is one and it has one
abbrev pub entry_version : Option Provide → Option (List ℕ)
entry_version None = None
entry_version (Some entry) = entry.version

abbrev pub version_at : List Provide → ℕ → Option (List ℕ)
version_at provides place = entry_version (slice_get provides place)

-- entries of a name by use, the usable ones in front, and by version, those without one in front
abbrev pub use_cmp : Option (List ℕ) → List Provide → ℕ → ℕ → Ordering
use_cmp architecture provides i j = ordering_then (nat_cmp (rank_at architecture provides i) (rank_at architecture
    provides j))
    (option_cmp version_cmp (version_at provides i) (version_at provides j))

-- places of entries of one name of a package in that order
abbrev pub AreInUseOrder : PackageList → (member : ℕ) → (places : List ℕ) → Type 0
AreInUseOrder r member places = (p : Package) → slice_get r.packages member ≡ Some p
    → IsSortedBy (λ i j. is_lt (use_cmp r.architecture p.provides i j)) places

-- an atom matches both entries of a new version of a package, or neither
abbrev pub AreMatchedAlike : SpaceView → Atom → (member class i j : ℕ) → Type 0
AreMatchedAlike s atom member class i j = IsMatchedBy s atom (Kept member class i) ↔ IsMatchedBy s atom (Kept member
    class j)

-- ---- in order. No public clause cites what follows.

-- by name, use and version
abbrev pub entry_cmp : Option (List ℕ) → List Provide → ℕ → ℕ → Ordering
entry_cmp architecture provides i j = ordering_then (slice_cmp nat_cmp (name_at provides i) (name_at provides j))
    (use_cmp architecture provides i j)

-- by name alone
abbrev pub AreInNameOrder : List Provide → (places : List ℕ) → Type 0
AreInNameOrder provides places = IsSortedBy (λ i j. is_lt (slice_cmp nat_cmp (name_at provides i) (name_at provides
    j))) places

-- the places of all entries, in order
pub record IsEntryOrder (architecture : Option (List ℕ)) (provides : List Provide) (places : List ℕ) : Type 0 where
  pub rising : IsSortedBy (λ i j. is_lt (entry_cmp architecture provides i j)) places
  pub exact : (j : ℕ) → Contains places j ↔ (j < length provides)

-- for each package the places of its entries
pub record AreEntryOrders (r : PackageList) (orders : List (List ℕ)) : Type 0 where
  pub beside : length orders ≡ length r.packages
  pub each : (n : ℕ) (p : Package) → slice_get r.packages n ≡ Some p
      → IsEntryOrder r.architecture p.provides (slice_index_or orders n [])

-- ---- entries that stand alike

-- two versions stand to a third one as each other
abbrev pub stand_alike : (third a b : List ℕ) → Bool
stand_alike third a b = ordering_index (version_cmp a third) == ordering_index (version_cmp b third)

-- and to that of a bound, if there is one
abbrev pub are_alike_to : Option Bound → (a b : List ℕ) → Bool
are_alike_to None a b = true
are_alike_to (Some bound) a b = stand_alike bound.version a b

-- two versions, or none, stand alike to the version of their package and to that of a bound
abbrev pub versions_alike : Option Bound → (own : List ℕ) → Option (List ℕ) → Option (List ℕ) → Bool
versions_alike bound own None None = true
versions_alike bound own None (Some b) = false
versions_alike bound own (Some a) None = false
versions_alike bound own (Some a) (Some b) = stand_alike own a b && are_alike_to bound a b

-- both entries are usable or neither, and their versions stand alike
abbrev pub are_alike : Option (List ℕ) → Option Bound → (own : List ℕ) → List Provide → ℕ → ℕ → Bool
are_alike architecture bound own provides i j = (rank_at architecture provides i == rank_at architecture provides j)
    && versions_alike bound own (version_at provides i) (version_at provides j)
