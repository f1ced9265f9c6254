-- What writing a part of a report adds to a text. No public clause cites it.
use Rattle.std.specs.Prelude.{◌≡◌, ℕ, List, ◌++◌, All, codes}
use Rattle.dist_repo.specs.PackageList.{PackageList}
use Rattle.dist_classes.specs.Answers.{AreClassesOf, AreClassesOfName}
use Rattle.dist_classes.specs.ClassList.{HasExample}
use Rattle.dist_classes.specs.declared.class_value.Class.{Class}
use Rattle.dist_report.specs.ClassesReport.{AreToldClusters, AreToldNames, ToldCluster, ToldName, cluster_lines}
use Rattle.dist_report.specs.ClassesReport.{name_lines}
use Rattle.dist_report.specs.Lines.{listed}

-- the lines of a cluster with its classes
pub record TellsCluster (r : PackageList) (members top old new : List ℕ) : Type 0 where
  pub classes : List Class
  pub are : AreClassesOf r members top classes
  pub examples : All HasExample classes
  pub text : new ≡ old ++ cluster_lines r.packages (record { members = members; top = top; classes = classes })

-- the lines of a new name with its classes
pub record TellsName (r : PackageList) (name old new : List ℕ) : Type 0 where
  pub classes : List Class
  pub are : AreClassesOfName r name classes
  pub examples : All HasExample classes
  pub text : new ≡ old ++ name_lines (record { name = name; classes = classes })

-- the lines of all clusters
pub record TellsClusters (r : PackageList) (old new : List ℕ) : Type 0 where
  pub clusters : List ToldCluster
  pub are : AreToldClusters r clusters
  pub text : new ≡ old ++ listed (codes "clusters:") (cluster_lines r.packages) clusters

-- the lines of all new names
pub record TellsNames (r : PackageList) (old new : List ℕ) : Type 0 where
  pub names : List ToldName
  pub are : AreToldNames r names
  pub text : new ≡ old ++ listed (codes "names:") name_lines names
