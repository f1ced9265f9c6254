-- Which source clusters have moved in a future, and what the models of a space's clauses tell of it.
use Rattle.std.specs.Prelude.{◌≡◌, ◌↔◌, ◌<◌, ℕ, true, Bool, List, Any, Contains, IsSomeAnd, Some, length, slice_get}
use Rattle.dist_clause.specs.Formula.{Literal, IsModel, value_of}
use Rattle.dist_cluster.specs.Partition.{IsIn}
use Rattle.dist_repo.specs.PackageList.{PackageList, IsPackageAnd}
use Rattle.dist_repo.specs.declared.package.Package.{Package}
use Rattle.dist_future.specs.Future.{IsFuture}
use Rattle.dist_future.specs.Outdated.{IsInstallationOf}
use Rattle.dist_future.specs.SpaceLaws.{examples_of, future_under, holds_under, installation_under}
use Rattle.dist_space.specs.Space.{SpaceView, cluster_classes}
use Rattle.dist_space.specs.declared.meaning.Meaning.TheVariants.{Present, At}

-- the future holds a package of q's name that is none of the repository's
abbrev pub IsReplaced : PackageList → (future : List Package) → (q : Package) → Type 0
IsReplaced r future q = Any (λ n. (n.name ≡ q.name) × (¬ Contains r.packages n)) future

-- The cluster of a number has moved: the future holds one of its names by a package that is none of the repository's.
abbrev pub IsMoved : SpaceView → (future : List Package) → (cluster : ℕ) → Type 0
IsMoved s future cluster = IsSomeAnd (slice_get s.clusters.members cluster)
    (λ members. Any (λ m. IsPackageAnd s.repository.packages m (IsReplaced s.repository future)) members)

-- Each package of the repository in the cluster is in the future by name, at this version.
abbrev pub AreHeld : SpaceView → (future : List Package) → (cluster : ℕ) → (version : List ℕ) → Type 0
AreHeld s future cluster version = (m : ℕ) (q : Package) → IsIn s.clusters.members cluster m
    → slice_get s.repository.packages m ≡ Some q → Any (λ n. (n.name ≡ q.name) × (n.version ≡ version)) future

-- ---- in models

-- the cluster is at some class under the assignment
abbrev pub IsAtClass : SpaceView → List Bool → (cluster : ℕ) → Type 0
IsAtClass s values cluster = (k : ℕ) × (k < length (cluster_classes s cluster))
    × (holds_under s values (At cluster k) ≡ true)

-- Some model of the clauses has the packages of the repository that are among the members, and no cluster at a class
-- but those that have moved in the future.
pub record HasModelFor (s : SpaceView) (clauses : List (List Literal)) (future members : List Package) : Type 0 where
  pub values : List Bool
  pub one_each : length values ≡ length s.meanings
  pub model : IsModel (value_of values) clauses
  pub present : (n : ℕ) (p : Package) → slice_get s.repository.packages n ≡ Some p → Contains members p
      → holds_under s values (Present n) ≡ true
  pub moved : (cluster : ℕ) → IsAtClass s values cluster → IsMoved s future cluster

-- What the models of the clauses tell of clusters that move: each healthy installation of a future has a model; in the
-- future that a model stands for exactly the clusters at a class have moved, each to the example of its class; and the
-- installation that it stands for has the packages of the repository that hold.
pub record TellOfMoves (s : SpaceView) (clauses : List (List Literal)) : Type 0 where
  pub there : (future members : List Package) → IsFuture s.repository future
      → IsInstallationOf s.essential s.repository future members → HasModelFor s clauses future members
  pub exact : (values : List Bool) → IsModel (value_of values) clauses → (cluster : ℕ)
      → cluster < length s.clusters.members → IsMoved s (future_under s values) cluster ↔ IsAtClass s values cluster
  pub at_class : (values : List Bool) → IsModel (value_of values) clauses → (cluster k : ℕ)
      → k < length (cluster_classes s cluster) → holds_under s values (At cluster k) ≡ true
      → AreHeld s (future_under s values) cluster (examples_of s cluster k)
  pub member : (values : List Bool) → IsModel (value_of values) clauses → (n : ℕ) (p : Package)
      → slice_get s.repository.packages n ≡ Some p → holds_under s values (Present n) ≡ true
      → Contains (installation_under s values) p
