-- The archives that may come of a flat repository (after Abate, Di Cosmo, Treinen and Zacchiroli, "Learning from the
-- future of component repositories", 2012): packages may go, source clusters may move to later versions as a whole, and
-- packages of new names may come. This project's own rules say what new packages provide.
use Rattle.std.specs.Prelude.{◌≡◌, ◌⊎◌, ℕ, List, Any, Contains}
use Rattle.std.specs.declared.cmp.Ordering.TheVariants.{Equal}
use Rattle.dist_version.specs.Order.{version_cmp, IsBelow}
use Rattle.dist_version.specs.Spelling.{IsVersion}
use Rattle.dist_cluster.specs.Relation.{AreClustered}
use Rattle.dist_repo.specs.Order.{IsFlat}
use Rattle.dist_repo.specs.PackageList.{PackageList}
use Rattle.dist_repo.specs.Providers.{IsEntryOf}
use Rattle.dist_repo.specs.declared.package.Package.{Package}
use Rattle.dist_classes.specs.Answers.{member_of}
use Rattle.dist_classes.specs.NewVersion.{IsNewOf, IsOfNewName}

-- a package of the repository in the source cluster of c, one of which is c itself
pub record IsInClusterOf (r : PackageList) (c q : Package) : Type 0 where
  pub there : Contains r.packages q
  pub clustered : AreClustered (member_of c) (member_of q)

-- a version above the top of c's cluster, that is, above the version of each of its packages
pub record IsAboveCluster (r : PackageList) (c : Package) (version : List ℕ) : Type 0 where
  pub is_version : IsVersion version
  pub above : (q : Package) → IsInClusterOf r c q → IsBelow q.version version

-- Every package of the future with a name of c's cluster is that very package of the repository.
abbrev pub Stays : PackageList → List Package → Package → Type 0
Stays r future c = (q n : Package) → IsInClusterOf r c q → Contains future n → n.name ≡ q.name → n ≡ q

-- Every package of the future with a name of c's cluster is a new version of it, and there is one version above the top
-- to which the versions of all of them are equal.
pub record Moves (r : PackageList) (future : List Package) (c : Package) : Type 0 where
  pub version : List ℕ
  pub above : IsAboveCluster r c version
  pub moved : (q n : Package) → IsInClusterOf r c q → Contains future n → n.name ≡ q.name → IsNewOf q n
      × (version_cmp n.version version ≡ Equal)

-- some package of the repository has the name
abbrev pub IsTaken : PackageList → List ℕ → Type 0
IsTaken r name = Any (λ q. q.name ≡ name) r.packages

-- a usable entry of Provides of some package of the repository has the name
abbrev pub IsProvided : PackageList → List ℕ → Type 0
IsProvided r name = Any (λ q. Any (IsEntryOf r.architecture name) q.provides) r.packages

-- A future of the repository: one package of a name at most; the packages of each cluster that are left stay or move
-- together; and a package of a name that no package of the repository has provides nothing, and does not have a name
-- that is provided there (virtual names stay virtual). All else is free: which packages are left, and what new ones
-- depend on and conflict with.
pub record IsFuture (r : PackageList) (future : List Package) : Type 0 where
  pub one_of_a_name : IsFlat future
  pub clusters : (c : Package) → Contains r.packages c → Stays r future c ⊎ Moves r future c
  pub fresh : (n : Package) → Contains future n → ¬ IsTaken r n.name → IsOfNewName n.name n × (¬ IsProvided r n.name)
