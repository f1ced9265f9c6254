-- What is found of a later archive while its packages are gone through. No public clause cites it.
use Rattle.std.specs.Prelude.{◌≡◌, ◌↔◌, ℕ, ◌+◌, ◌<◌, Bool, List, Option, None, Some, Contains, IsTrue, length}
use Rattle.std.specs.Prelude.{slice_get}
use Rattle.std.specs.declared.cmp.Ordering.TheVariants.{Equal}
use Rattle.dist_version.specs.Order.{version_cmp}
use Rattle.dist_repo.specs.PackageList.{PackageList, IsPackageAnd}
use Rattle.dist_repo.specs.declared.package.Package.{Package}
use Rattle.dist_space.specs.Space.{SpaceView}
use Rattle.dist_archive.specs.Reach.{Fits, IsFirstMisfit, IsLater}
use Rattle.dist_archive.specs.Steps.{IsClusterName, IsOfCluster}
use Rattle.dist_archive.specs.declared.fitting.Found.{Found}
use Rattle.dist_archive.specs.declared.fitting.Found.TheVariants.{Nothing, Kept, New}
use Rattle.dist_archive.specs.declared.plan.ReachError.{ReachError}
use Rattle.dist_archive.specs.declared.plan.ReachError.TheVariants.{NotAFuture, NoMemory}

-- so many first packages fit
abbrev pub AllFit : PackageList → (later : List Package) → (count : ℕ) → Type 0
AllFit r later count = (k : ℕ) (n : Package) → k < count → slice_get later k ≡ Some n → Fits r later k n

-- what is found of c's cluster among so many first packages: nothing, one that is kept, or the number of a later one
abbrev pub IsFound : PackageList → (later : List Package) → (count : ℕ) → (c : Package) → Found → Type 0
IsFound r later count c Nothing = (k : ℕ) (n : Package) → k < count → slice_get later k ≡ Some n
    → ¬ IsClusterName r c n.name
IsFound r later count c Kept = (k : ℕ) × (k < count)
    × IsPackageAnd later k (λ n. IsClusterName r c n.name × Contains r.packages n)
IsFound r later count c (New k) = (k < count) × IsPackageAnd later k (λ n. IsClusterName r c n.name × IsLater r n)

-- so many first packages fit, and this is found of the clusters
pub record AreChecked (s : SpaceView) (later : List Package) (count : ℕ) (founds : List Found) : Type 0 where
  pub beside : length founds ≡ length s.clusters.members
  pub fits : AllFit s.repository later count
  pub each : (cluster : ℕ) (c : Package) (found : Found) → IsOfCluster s cluster c
      → slice_get founds cluster ≡ Some found → IsFound s.repository later count c found

-- why there is no plan: the first misfit
abbrev pub IsReason : PackageList → (later : List Package) → ReachError → Type 0
IsReason r later (NotAFuture number) = IsFirstMisfit r later number
IsReason r later NoMemory = Unit {0}

-- the package of a place of the later archive has the name of the package of a number
pub record AreNamedAlike (s : SpaceView) (later : List Package) (place number : ℕ) : Type 0 where
  pub own : Package
  pub fresh : Package
  pub is_own : slice_get s.repository.packages number ≡ Some own
  pub is_fresh : slice_get later place ≡ Some fresh
  pub named : own.name ≡ fresh.name

-- a package under the name of the package of a number comes next, all before it fit, and this is found of its cluster
pub record IsNext (s : SpaceView) (later : List Package) (place number : ℕ) (found : Found) : Type 0 where
  pub alike : AreNamedAlike s later place number
  pub fits : AllFit s.repository later place
  pub holds : IsFound s.repository later place alike.own found

-- where it fits, this is found of its cluster with it
abbrev pub Takes : SpaceView → (later : List Package) → (place number : ℕ) → Option Found → Type 0
Takes s later place number None = IsPackageAnd later place (λ n. ¬ Fits s.repository later place n)
Takes s later place number (Some found) = IsPackageAnd later place (Fits s.repository later place)
    × IsPackageAnd s.repository.packages number (λ q. IsFound s.repository later (place + 1) q found)

-- whether the packages of two places have equal versions
abbrev pub AreLevel : (later : List Package) → (place first : ℕ) → Bool → Type 0
AreLevel later place first level = (n m : Package) → slice_get later place ≡ Some n → slice_get later first ≡ Some m
    → IsTrue level ↔ (version_cmp n.version m.version ≡ Equal)
