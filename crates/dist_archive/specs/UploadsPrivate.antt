-- What is found of an upload before it is made. No public clause cites it.
use Rattle.std.specs.Prelude.{◌≡◌, ◌≢◌, ℕ, List, Some, All, slice_get}
use Rattle.std.specs.declared.cmp.Ordering.TheVariants.{Equal}
use Rattle.dist_version.specs.Order.{IsBelow, version_cmp}
use Rattle.dist_repo.specs.PackageList.{PackageList}
use Rattle.dist_repo.specs.declared.package.Package.{Package}
use Rattle.dist_classes.specs.NewVersion.{IsNewOf}
use Rattle.dist_future.specs.Future.{IsInClusterOf}
use Rattle.dist_archive.specs.Archive.{ArchiveView, IsHeldAs}
use Rattle.dist_archive.specs.Refusals.{IsOfOtherArchitecture}
use Rattle.dist_archive.specs.Steps.{IsAboveAll, IsUploaded}
use Rattle.dist_archive.specs.declared.step.StepError.{StepError}
use Rattle.dist_archive.specs.declared.step.StepError.TheVariants.{NotAtVersion, WrongProvides}

-- the package of a number is the one of c's cluster with a name
pub record IsMemberNamed (r : PackageList) (c : Package) (name : List ℕ) (number : ℕ) : Type 0 where
  pub member : Package
  pub is : slice_get r.packages number ≡ Some member
  pub in_cluster : IsInClusterOf r c member
  pub named : member.name ≡ name
  pub only : (q : Package) → IsInClusterOf r c q → q.name ≡ name → q ≡ member

-- nothing is wrong with an upload
pub record IsChecked (r : PackageList) (archive : List Package) (c : Package) (version : List ℕ) (block : PackageList)
    : Type 0 where
  pub architecture : ¬ IsOfOtherArchitecture r block
  pub above : IsAboveAll r archive c version
  pub uploaded : All (IsUploaded r c version) block.packages

-- a version is above what an archive has of the name of the package of a number
abbrev pub IsAboveHeld : ArchiveView → (number : ℕ) → (version : List ℕ) → Type 0
IsAboveHeld v number version = (p n : Package) → slice_get v.space.repository.packages number ≡ Some p
    → IsHeldAs v.packages p.name n → IsBelow n.version version

-- n is a new version of the member, at a version equal to this one
abbrev pub IsMemberNew : (version : List ℕ) → (member n : Package) → Type 0
IsMemberNew version member n = IsNewOf member n × (version_cmp n.version version ≡ Equal)

-- or it is not: its version is another one, or it is no new version
abbrev pub IsMemberFault : (version : List ℕ) → (number : ℕ) → (member n : Package) → StepError → Type 0
IsMemberFault version number member n (NotAtVersion at) = (at ≡ number) × (version_cmp n.version version ≢ Equal)
IsMemberFault version number member n (WrongProvides at) = (at ≡ number) × (version_cmp n.version version ≡ Equal)
    × (¬ IsNewOf member n)
IsMemberFault version number member n error = ⊥
