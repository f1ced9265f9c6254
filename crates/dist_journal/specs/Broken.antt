-- Packages that moved clusters break, by the claims of a certificate on challenges.
use Rattle.std.specs.Prelude.{◌↔◌, ℕ, List, AllPairs, Contains, IsSomeAnd, slice_get}
use Rattle.dist_repo.specs.PackageList.{IsPackageAnd}
use Rattle.dist_repo.specs.declared.package.Package.{Package}
use Rattle.dist_classes.specs.ClassList.{IsOfClassAt}
use Rattle.dist_space.specs.Space.{SpaceView, cluster_classes}
use Rattle.dist_archive.specs.Moved.{IsMovedTo}
use Rattle.dist_cert.specs.declared.records.Claim.{Claim}
use Rattle.dist_cert.specs.declared.records.Claim.TheVariants.{Challenged}
use Rattle.dist_journal.specs.BrokenOrder.{StandsBefore}
use Rattle.dist_journal.specs.declared.broken_list.Broken.{Broken}

-- the claim says that a class of a cluster challenges its package
abbrev pub Lists : Claim → (cluster class : ℕ) → Type 0
Lists (Challenged by undecided) cluster class = Contains by (cluster, class)
Lists claim cluster class = ⊥

-- the archive has moved a cluster to a version of this class
abbrev pub IsMovedInto : SpaceView → (archive : List Package) → (cluster class : ℕ) → Type 0
IsMovedInto s archive cluster class = (version : List ℕ) × IsMovedTo s archive cluster version
    × IsOfClassAt (cluster_classes s cluster) class version

-- A cluster breaks a package: the archive holds the package of the repository itself, and has moved the cluster to a
-- version of a class that challenges it by its claim.
pub record IsBroken (s : SpaceView) (archive : List Package) (made : List Claim) (broken : Broken) : Type 0 where
  pub held : IsPackageAnd s.repository.packages broken.package_ (Contains archive)
  pub class : ℕ
  pub moved : IsMovedInto s archive broken.cluster class
  pub listed : IsSomeAnd (slice_get made broken.package_) (λ claim. Lists claim broken.cluster class)

-- exactly those that are broken, in order
pub record AreBroken (s : SpaceView) (archive : List Package) (made : List Claim) (list : List Broken) : Type 0 where
  pub rising : AllPairs StandsBefore list
  pub exact : (broken : Broken) → Contains list broken ↔ IsBroken s archive made broken
