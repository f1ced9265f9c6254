-- What the calls answer: the clusters of a repository, and the classes of a cluster and of a new name.
use Rattle.std.specs.Prelude.{◌≡◌, ℕ, ◌<◌, ◌^◌, ◌⊎◌, List, length, map}
use Rattle.dist_cluster.specs.Partition.{IsPartition}
use Rattle.dist_cluster.specs.Relation.{Member}
use Rattle.dist_cluster.specs.Top.{AreTops, ClusterList}
use Rattle.dist_repo.specs.PackageList.{PackageList}
use Rattle.dist_repo.specs.declared.package.Package.{Package}
use Rattle.dist_classes.specs.ClassList.{AreClassesAbove, AreClassesOfAll, classes_above, classes_of_all}
use Rattle.dist_classes.specs.Cuts.{AreCuts, IsClusterCut, IsNameCut, RisesFrom}
use Rattle.dist_classes.specs.declared.class_value.Class.{Class}

-- what clusters know of a package
abbrev pub member_of : Package → Member
member_of p = record { source = p.source; source_version = p.source_version; version = p.version }

-- the clusters of the packages of a repository, by their numbers
pub record AreClustersOf (r : PackageList) (clusters : ClusterList) : Type 0 where
  pub partition : IsPartition (map member_of r.packages) clusters.members
  pub tops : AreTops (map member_of r.packages) clusters

-- the classes of the versions above a cluster's top, between its cuts
pub record AreClassesOf (r : PackageList) (members top : List ℕ) (classes : List Class) : Type 0 where
  pub cuts : List (List ℕ)
  pub are_cuts : AreCuts (IsClusterCut r members top) cuts
  pub rising : RisesFrom top cuts
  pub are : classes ≡ classes_above top cuts

-- the classes of the versions of a new name, between its cuts
pub record AreClassesOfName (r : PackageList) (name : List ℕ) (classes : List Class) : Type 0 where
  pub cuts : List (List ℕ)
  pub are_cuts : AreCuts (IsNameCut r name) cuts
  pub are : classes ≡ classes_of_all cuts

-- what a list of classes keeps: it is one between cuts, and its numbers fit in 32 bits
pub record IsClassList (classes : List Class) : Type 0 where
  pub few : length classes < 2 ^ 32
  pub between : AreClassesAbove classes ⊎ AreClassesOfAll classes
