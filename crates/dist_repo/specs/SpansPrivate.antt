-- The packages of a name stand together among packages in order.
use Rattle.std.specs.Prelude.{◌≡◌, ◌↔◌, ℕ, ◌<◌, ◌≤◌, Bool, true, false, List, Some, length, slice_get}
use Rattle.std.specs.Cmp.Lexicographic.{slice_cmp}
use Rattle.std.specs.Ordering.{is_le, is_lt, nat_cmp}
use Rattle.std.specs.declared.cmp.Ordering.{Ordering}
use Rattle.dist_repo.specs.declared.package.Package.{Package}

-- a name that stands so to another one is before the first of that name, or before the end of those
abbrev pub comes_before : Bool → Ordering → Bool
comes_before false order = is_lt order
comes_before true order = is_le order

-- so is the name of a package
abbrev pub is_before : Bool → List ℕ → Package → Bool
is_before past name p = comes_before past (slice_cmp nat_cmp p.name name)

-- the packages before a place are before the edge, and those from another one on are not
pub record IsEdgeWithin (packages : List Package) (name : List ℕ) (past : Bool) (low high : ℕ) : Type 0 where
  pub ordered : low ≤ high
  pub within : high ≤ length packages
  pub before : (k : ℕ) (p : Package) → slice_get packages k ≡ Some p → k < low → is_before past name p ≡ true
  pub behind : (k : ℕ) (p : Package) → slice_get packages k ≡ Some p → high ≤ k → is_before past name p ≡ false

-- the place of the edge
abbrev pub IsEdge : List Package → List ℕ → Bool → ℕ → Type 0
IsEdge packages name past place = IsEdgeWithin packages name past place place

-- the packages of a name are those from one place up to another
pub record IsSpan (packages : List Package) (name : List ℕ) (start end : ℕ) : Type 0 where
  pub ordered : start ≤ end
  pub within : end ≤ length packages
  pub exact : (k : ℕ) (p : Package) → slice_get packages k ≡ Some p → (p.name ≡ name) ↔ ((start ≤ k) × (k < end))
