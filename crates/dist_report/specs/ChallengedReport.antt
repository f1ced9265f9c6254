-- The report of challenges: the classes of the clusters of a repository, each with the packages that it breaks. A class
-- goes by the pair of its cluster's number and its own number among the cluster's classes. A pair of a claim that is
-- that of no class is told nowhere.
use Rattle.std.specs.Prelude.{◌≡◌, ◌==◌, ◌&&◌, ℕ, Bool, List, [], ◌++◌, codes, filter, length, map, slice_get}
use Rattle.std.specs.List.{flat_map, list_any, range_with_len}
use Rattle.std.specs.Option.{option_map_or}
use Rattle.dist_repo.specs.PackageList.{PackageList}
use Rattle.dist_repo.specs.declared.package.Package.{Package}
use Rattle.dist_cert.specs.declared.records.Claim.{Claim}
use Rattle.dist_cluster.specs.Partition.{least}
use Rattle.dist_classes.specs.declared.class_value.Class.{Class}
use Rattle.dist_report.specs.ClaimParts.{challenged_by, has_some, is_uninstallable, is_unknown, opening_lines}
use Rattle.dist_report.specs.ClaimParts.{packages_with}
use Rattle.dist_report.specs.ClaimParts.{told_packages, undecided_by}
use Rattle.dist_report.specs.ClassesReport.{AreToldClusters, ToldCluster, class_and_example}
use Rattle.dist_report.specs.Lines.{listed}
use Rattle.dist_report.specs.PackageText.{package_line}

-- ---- what is told

-- the pairs of all classes, where these are the classes of each cluster, in order
abbrev pub class_pairs : List (List Class) → List (ℕ × ℕ)
class_pairs classes = flat_map (λ c. map (λ k. (c, k))
    (range_with_len 0 (option_map_or length (slice_get classes c) 0))) (range_with_len 0 (length classes))

abbrev pub has_pair : List (ℕ × ℕ) → ℕ × ℕ → Bool
has_pair pairs pair = list_any (λ other. (pair.0 == other.0) && (pair.1 == other.1)) pairs

-- the packages in whose lists a pair is
abbrev pub broken_by : (Claim → List (ℕ × ℕ)) → List Claim → ℕ × ℕ → List ℕ
broken_by list_of made pair = packages_with (λ claim. has_pair (list_of claim) pair) made

-- the pairs that are in some package's list
abbrev pub breaking : (Claim → List (ℕ × ℕ)) → List ToldCluster → List Claim → List (ℕ × ℕ)
breaking list_of clusters made =
    filter (λ pair. has_some (broken_by list_of made pair)) (class_pairs (map (λ c. c.classes) clusters))

-- ---- the text

-- a class, behind the cluster's least member, and the packages that it breaks
abbrev pub broken_lines : List Package → (members broken : List ℕ) → Class → List ℕ
broken_lines packages members broken class =
    package_line (codes "  - cluster: ") packages (least members)
    ++ (class_and_example (codes "    class: ") (codes "    example: ") class
    ++ listed (codes "    breaks:") (package_line (codes "      - ") packages) broken)

-- the same of the class of a pair
abbrev pub pair_lines : List Package → List ToldCluster → (broken : List ℕ) → ℕ × ℕ → List ℕ
pair_lines packages clusters broken pair =
    option_map_or (λ c. option_map_or (broken_lines packages c.members broken) (slice_get c.classes pair.1) [])
    (slice_get clusters pair.0) []

-- a key and the classes that break some package, by the claims' lists of one kind
abbrev pub told_classes : (key : List ℕ) → (Claim → List (ℕ × ℕ)) → List Package → List ToldCluster → List Claim
    → List ℕ
told_classes key list_of packages clusters made =
    listed key (λ pair. pair_lines packages clusters (broken_by list_of made pair) pair)
    (breaking list_of clusters made)

-- the whole report: its head, and a list for each key in this order
abbrev pub challenged_lines : List Package → List ToldCluster → (limit : ℕ) → List Claim → List ℕ
challenged_lines packages clusters limit made =
    opening_lines (codes "challenged") packages limit
    ++ (told_packages (codes "uninstallable:") is_uninstallable packages made
    ++ (told_classes (codes "challenged:") challenged_by packages clusters made
    ++ (told_packages (codes "undecided:") is_unknown packages made
    ++ told_classes (codes "undecided_classes:") undecided_by packages clusters made)))

-- The text is the report of the claims of challenges. There is one at most (the law `reports_are_one`).
pub record IsChallengedText (r : PackageList) (limit : ℕ) (made : List Claim) (text : List ℕ) : Type 0 where
  pub clusters : List ToldCluster
  pub are_clusters : AreToldClusters r clusters
  pub is : text ≡ challenged_lines r.packages clusters limit made
