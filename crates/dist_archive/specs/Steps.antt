-- The steps by which an archive changes, one after another, from a flat repository on: uploads, removals and packages
-- of new names. What a new version and a package of a new name may be is said of futures; that an archive changes by
-- such steps is this project's own reading of the work of its uploaders.
use Rattle.std.specs.Prelude.{◌≡◌, ◌≢◌, ◌⊎◌, ◌↔◌, ℕ, List, [], ◌∷◌, Some, All, Any, Contains, slice_get}
use Rattle.std.specs.declared.cmp.Ordering.TheVariants.{Equal}
use Rattle.dist_version.specs.Order.{version_cmp, IsBelow}
use Rattle.dist_cluster.specs.Partition.{IsIn}
use Rattle.dist_repo.specs.Order.{IsFlat}
use Rattle.dist_repo.specs.PackageList.{PackageList}
use Rattle.dist_repo.specs.declared.package.Package.{Package}
use Rattle.dist_classes.specs.NewVersion.{IsNewOf, IsOfNewName}
use Rattle.dist_space.specs.Space.{SpaceView}
use Rattle.dist_future.specs.Future.{IsAboveCluster, IsInClusterOf, IsProvided, IsTaken}
use Rattle.dist_archive.specs.declared.step.Step.{Step}
use Rattle.dist_archive.specs.declared.step.Step.TheVariants.{Upload, Removal, NewName}

-- The archive has exactly the packages with a property, and one of a name. Their order is left open.
pub record HasExactly (archive : List Package) (P : Package → Type 0) : Type 0 where
  pub one_of_a_name : IsFlat archive
  pub exact : (n : Package) → Contains archive n ↔ P n

-- the archive has a package of the name
abbrev pub IsHeld : (archive : List Package) → (name : List ℕ) → Type 0
IsHeld archive name = Any (λ n. n.name ≡ name) archive

-- some package of the repository in c's cluster has the name
abbrev pub IsClusterName : PackageList → (c : Package) → (name : List ℕ) → Type 0
IsClusterName r c name = (q : Package) × IsInClusterOf r c q × (q.name ≡ name)

-- n is a new version of a package of the repository in c's cluster, whatever was uploaded in between
abbrev pub IsNewIn : PackageList → (c : Package) → (n : Package) → Type 0
IsNewIn r c n = (q : Package) × IsInClusterOf r c q × IsNewOf q n

-- so it is, and at a version equal to this one
abbrev pub IsUploaded : PackageList → (c : Package) → (version : List ℕ) → (n : Package) → Type 0
IsUploaded r c version n = IsNewIn r c n × (version_cmp n.version version ≡ Equal)

-- a version above the top of c's cluster, and above every version that the archive has of the names of the cluster
pub record IsAboveAll (r : PackageList) (archive : List Package) (c : Package) (version : List ℕ) : Type 0 where
  pub top : IsAboveCluster r c version
  pub held : (n : Package) → Contains archive n → IsClusterName r c n.name → IsBelow n.version version

-- An upload of c's cluster at a version above all takes away each package with a name of the cluster, and puts in one
-- for any number of these names, perhaps for none: new versions, each at a version equal to that one.
pub record Uploads (r : PackageList) (c : Package) (version : List ℕ) (packages old new : List Package) : Type 0 where
  pub cluster : Contains r.packages c
  pub above : IsAboveAll r old c version
  pub uploaded : All (IsUploaded r c version) packages
  pub made : HasExactly new (λ n. Contains packages n ⊎ (Contains old n × (¬ IsClusterName r c n.name)))

-- A removal takes one package away.
pub record Removes (name : List ℕ) (old new : List Package) : Type 0 where
  pub there : IsHeld old name
  pub made : HasExactly new (λ n. Contains old n × (n.name ≢ name))

-- A package of a new name comes: the name is neither the repository's nor the archive's, and none that an entry of the
-- repository provides; and the package provides nothing.
pub record BringsName (r : PackageList) (p : Package) (old new : List Package) : Type 0 where
  pub untaken : ¬ IsTaken r p.name
  pub unheld : ¬ IsHeld old p.name
  pub unprovided : ¬ IsProvided r p.name
  pub of_new_name : IsOfNewName p.name p
  pub made : HasExactly new (λ n. Contains old n ⊎ (p ≡ n))

-- c is a package of the cluster of a number
pub record IsOfCluster (s : SpaceView) (cluster : ℕ) (c : Package) : Type 0 where
  pub member : ℕ
  pub in_cluster : IsIn s.clusters.members cluster member
  pub is : slice_get s.repository.packages member ≡ Some c

-- What one step makes of an archive. An upload gives its cluster by the number, and its packages as a block; the block
-- of a new name has one package.
abbrev pub Makes : SpaceView → Step → (old new : List Package) → Type 0
Makes s (Upload cluster version block) old new =
    (c : Package) × IsOfCluster s cluster c × Uploads s.repository c version block.packages old new
Makes s (Removal name) old new = Removes name old new
Makes s (NewName block) old new = (p : Package) × (block.packages ≡ p ∷ []) × BringsName s.repository p old new

-- Steps, one after another, lead from one archive to another one.
abbrev pub Lead : SpaceView → List Step → (old new : List Package) → Type 0
Lead s [] old new = HasExactly new (Contains old)
Lead s (step ∷ steps) old new = (next : List Package) × Makes s step old next × Lead s steps next new

-- Some list of steps leads from the repository itself to this archive.
abbrev pub IsReached : SpaceView → (archive : List Package) → Type 0
IsReached s archive = (steps : List Step) × Lead s steps s.repository.packages archive
