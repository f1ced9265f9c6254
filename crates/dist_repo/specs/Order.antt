-- The order of packages, by the bytes of their names and then by version, and the newest version of each name.
use Rattle.std.specs.Prelude.{◌≡◌, ◌≢◌, ◌↔◌, ℕ, List, All, AllPairs, Contains}
use Rattle.std.specs.Cmp.Lexicographic.{slice_cmp}
use Rattle.std.specs.Ordering.{nat_cmp, ordering_then}
use Rattle.std.specs.declared.cmp.Ordering.{Ordering}
use Rattle.std.specs.declared.cmp.Ordering.TheVariants.{Less, Equal}
use Rattle.dist_version.specs.Order.{version_cmp}
use Rattle.dist_repo.specs.PackageList.{PackageList}
use Rattle.dist_repo.specs.declared.package.Package.{Package}

-- names and versions, by the bytes of the names and then by version
abbrev pub key_cmp : List ℕ × List ℕ → List ℕ × List ℕ → Ordering
key_cmp a b = ordering_then (slice_cmp nat_cmp a.0 b.0) (version_cmp a.1 b.1)

abbrev pub package_cmp : Package → Package → Ordering
package_cmp p q = key_cmp (p.name, p.version) (q.name, q.version)

-- Each package is below each later one, so that none of one name and an equal version stands twice.
abbrev pub IsInOrder : List Package → Type 0
IsInOrder packages = AllPairs (λ p q. package_cmp p q ≡ Less) packages

-- one name and equal versions, whose texts may differ
abbrev pub IsSamePackage : Package → Package → Type 0
IsSamePackage p q = (p.name ≡ q.name) × (version_cmp p.version q.version ≡ Equal)

-- one version of each name
abbrev pub IsFlat : List Package → Type 0
IsFlat packages = AllPairs (λ p q. p.name ≢ q.name) packages

-- A package of the list that no other of its name exceeds in version.
pub record IsNewest (packages : List Package) (p : Package) : Type 0 where
  pub there : Contains packages p
  pub newest : All (λ q. q.name ≡ p.name → version_cmp p.version q.version ≢ Less) packages

-- The repository of the newest versions: the newest package of each name, and nothing else, for the same architecture.
pub record IsLatestOf (r latest : PackageList) : Type 0 where
  pub newest : (p : Package) → Contains latest.packages p ↔ IsNewest r.packages p
  pub in_order : IsInOrder latest.packages
  pub flat : IsFlat latest.packages
  pub architecture : latest.architecture ≡ r.architecture
