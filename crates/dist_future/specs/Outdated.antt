-- Outdated packages, and versions that challenge packages, for a flat repository at mode essential or plain. The terms
-- are those of Abate, Di Cosmo, Treinen and Zacchiroli, "Learning from the future of component repositories" (2012).
-- A package is outdated (`IsOutdated`) if it can be installed in no future: whatever becomes of others, it has to be
-- changed itself. A later version of a source cluster challenges a package (`Challenges`) that can be installed today
-- and in no future that has the cluster at that version: the upgrade breaks it, whatever else is done. That other
-- clusters may move too in such a future is this project's own reading.
use Rattle.std.specs.Prelude.{◌≡◌, ℕ, Bool, List, Any, Contains}
use Rattle.std.specs.declared.cmp.Ordering.TheVariants.{Equal}
use Rattle.dist_version.specs.Order.{version_cmp}
use Rattle.dist_cluster.specs.Relation.{AreClustered}
use Rattle.dist_repo.specs.Healthy.{Healthy, required_names}
use Rattle.dist_repo.specs.PackageList.{PackageList}
use Rattle.dist_repo.specs.Strong.{IsInstallable}
use Rattle.dist_repo.specs.declared.package.Package.{Package}
use Rattle.dist_classes.specs.Answers.{member_of}
use Rattle.dist_future.specs.Future.{IsInClusterOf, IsAboveCluster, IsFuture}

-- a healthy installation of a future: at mode essential it has the names of the repository's essential packages
abbrev pub IsInstallationOf : Bool → PackageList → (future members : List Package) → Type 0
IsInstallationOf essential r future members =
    Healthy r.architecture (required_names essential r.packages) future members

-- Some healthy installation of the future holds the package itself.
pub record IsInstallableIn (essential : Bool) (r : PackageList) (future : List Package) (p : Package) : Type 0 where
  pub members : List Package
  pub healthy : IsInstallationOf essential r future members
  pub holds : Contains members p

-- Some future has such an installation.
pub record IsInstallableLater (essential : Bool) (r : PackageList) (p : Package) : Type 0 where
  pub future : List Package
  pub is_future : IsFuture r future
  pub installable : IsInstallableIn essential r future p

-- A package of the repository is outdated where no future has a healthy installation that holds it.
pub record IsOutdated (essential : Bool) (r : PackageList) (p : Package) : Type 0 where
  pub there : Contains r.packages p
  pub never : ¬ IsInstallableLater essential r p

-- a future holds the cluster of c at a version: each name of the cluster is in it, at an equal version
abbrev pub HoldsCluster : PackageList → (future : List Package) → (c : Package) → (version : List ℕ) → Type 0
HoldsCluster r future c version = (q : Package) → IsInClusterOf r c q
    → Any (λ n. (n.name ≡ q.name) × (version_cmp n.version version ≡ Equal)) future

-- Some future that holds the cluster of c at a version has a healthy installation that holds the package itself.
pub record IsInstallableAt (essential : Bool) (r : PackageList) (c : Package) (version : List ℕ) (p : Package) : Type 0
  where
    pub future : List Package
    pub is_future : IsFuture r future
    pub holds : HoldsCluster r future c version
    pub installable : IsInstallableIn essential r future p

-- A version above the top of the cluster of c challenges a package outside of that cluster: the package is installable
-- today, and in no future that holds the cluster at that version. Other clusters may move in such a future too.
pub record Challenges (essential : Bool) (r : PackageList) (c : Package) (version : List ℕ) (p : Package) : Type 0 where
  pub cluster : Contains r.packages c
  pub package_there : Contains r.packages p
  pub outside : ¬ AreClustered (member_of c) (member_of p)
  pub above : IsAboveCluster r c version
  pub installable : IsInstallable essential r p
  pub never : ¬ IsInstallableAt essential r c version p
