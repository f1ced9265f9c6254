-- The report of `classes`: each cluster with its members and its classes, and each new name with its classes.
use Rattle.std.specs.Prelude.{◌≡◌, ℕ, List, [], ◌++◌, All, codes, decimal, length, map, slice_get}
use Rattle.std.specs.Option.{option_map_or}
use Rattle.dist_repo.specs.PackageList.{PackageList}
use Rattle.dist_repo.specs.declared.package.Package.{Package}
use Rattle.dist_cluster.specs.Partition.{least}
use Rattle.dist_classes.specs.Answers.{AreClassesOf, AreClassesOfName, AreClustersOf}
use Rattle.dist_classes.specs.ClassList.{HasExample, class_text, example_text}
use Rattle.dist_classes.specs.NewNames.{AreNewNames}
use Rattle.dist_classes.specs.declared.class_value.Class.{Class}
use Rattle.dist_report.specs.Lines.{listed, string_line}
use Rattle.dist_report.specs.PackageText.{label, package_line}

-- what is told of a cluster, and of a new name
pub record ToldCluster : Type 0 where
  pub members : List ℕ
  pub top : List ℕ
  pub classes : List Class

-- a new name as the report tells it
pub record ToldName : Type 0 where
  pub name : List ℕ
  pub classes : List Class

-- these are the clusters of the repository, in their order, each with its classes, none of which is empty
pub record AreToldClusters (r : PackageList) (clusters : List ToldCluster) : Type 0 where
  pub are : AreClustersOf r (record { members = map (λ c. c.members) clusters; tops = map (λ c. c.top) clusters })
  pub classes : All (λ c. AreClassesOf r c.members c.top c.classes) clusters
  pub examples : All (λ c. All HasExample c.classes) clusters

-- these are its new names, in their order, each with its classes, none of which is empty
pub record AreToldNames (r : PackageList) (names : List ToldName) : Type 0 where
  pub are : AreNewNames r (map (λ n. n.name) names)
  pub classes : All (λ n. AreClassesOfName r n.name n.classes) names
  pub examples : All (λ n. All HasExample n.classes) names

-- ---- the text

-- a class, and an example of its versions, each behind what stands before it in its line
abbrev pub class_and_example : (before_class before_example : List ℕ) → Class → List ℕ
class_and_example before_class before_example class = string_line before_class (class_text class)
    ++ string_line before_example (example_text class)

abbrev pub class_lines : Class → List ℕ
class_lines class = class_and_example (codes "      - class: ") (codes "        example: ") class

-- a cluster goes by its least member; what follows are the name of its source and its greatest version
abbrev pub head_lines : List Package → (least : ℕ) → (top : List ℕ) → List ℕ
head_lines packages first top =
    string_line (codes "  - cluster: ") (option_map_or label (slice_get packages first) [])
    ++ (string_line (codes "    source: ") (option_map_or (λ p. p.source) (slice_get packages first) [])
    ++ string_line (codes "    top: ") top)

-- a cluster: its first member, source, top, members and classes
abbrev pub cluster_lines : List Package → ToldCluster → List ℕ
cluster_lines packages c =
    head_lines packages (least c.members) c.top
    ++ (listed (codes "    members:") (package_line (codes "      - ") packages) c.members
    ++ listed (codes "    classes:") class_lines c.classes)

abbrev pub name_lines : ToldName → List ℕ
name_lines n = string_line (codes "  - name: ") n.name ++ listed (codes "    classes:") class_lines n.classes

-- what kind of report it is, and how many packages there are
abbrev pub first_lines : List Package → List ℕ
first_lines packages = codes "report: \"classes\"\npackages: " ++ (decimal (length packages) ++ codes "\n")

abbrev pub classes_lines : List Package → List ToldCluster → List ToldName → List ℕ
classes_lines packages clusters names = first_lines packages
    ++ (listed (codes "clusters:") (cluster_lines packages) clusters ++ listed (codes "names:") name_lines names)

-- The text is the report of the repository's classes. There is one at most (the law `classes_texts_are_one`).
pub record IsClassesText (r : PackageList) (text : List ℕ) : Type 0 where
  pub clusters : List ToldCluster
  pub names : List ToldName
  pub are_clusters : AreToldClusters r clusters
  pub are_names : AreToldNames r names
  pub is : text ≡ classes_lines r.packages clusters names
