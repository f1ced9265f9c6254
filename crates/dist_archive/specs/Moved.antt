-- Which clusters of the repository an archive has moved, and which cluster is meant by a name.
use Rattle.std.specs.Prelude.{◌≡◌, ℕ, List, Any, IsSomeAnd, slice_get}
use Rattle.dist_repo.specs.PackageList.{IsPackageAnd}
use Rattle.dist_repo.specs.declared.package.Package.{Package}
use Rattle.dist_space.specs.Space.{SpaceView}
use Rattle.dist_future.specs.Future.{IsAboveCluster}
use Rattle.dist_future.specs.Outdated.{HoldsCluster}
use Rattle.dist_archive.specs.Steps.{IsOfCluster}

-- The archive has moved the cluster of a number to a version above its top: each name of the cluster is held, at an
-- equal version.
abbrev pub IsMovedTo : SpaceView → (archive : List Package) → (cluster : ℕ) → (version : List ℕ) → Type 0
IsMovedTo s archive cluster version = (c : Package) × IsOfCluster s cluster c
    × IsAboveCluster s.repository c version × HoldsCluster s.repository archive c version

-- what is held of the name of the cluster's least member has this version, in this text
abbrev pub IsLeastHeld : SpaceView → (archive : List Package) → (cluster : ℕ) → (version : List ℕ) → Type 0
IsLeastHeld s archive cluster version = IsSomeAnd (slice_get s.clusters.members cluster)
    (λ members. IsSomeAnd (slice_get members 0)
    (λ least. IsPackageAnd s.repository.packages least
    (λ q. Any (λ n. (n.name ≡ q.name) × (n.version ≡ version)) archive)))

-- the cluster of a number has the package of the repository with this name
abbrev pub IsClusterNamed : SpaceView → (name : List ℕ) → (cluster : ℕ) → Type 0
IsClusterNamed s name cluster = (c : Package) × IsOfCluster s cluster c × (c.name ≡ name)
