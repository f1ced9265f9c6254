-- What is counted of a Packages file: its packages, the clauses of the present, the classes of later versions.
use Rattle.std.specs.Prelude.{◌≡◌, ◌⊎◌, ℕ, ◌<◌, ◌≤◌, Bool, false, List, [], ◌++◌, codes, length, slice_index_or, sum_by}
use Rattle.dist_base.specs.declared.TheConstants.{MAX_BYTES, MAX_STANZAS, MAX_CLAUSES, MAX_LITERALS}
use Rattle.dist_clause.specs.Formula.{Literal}
use Rattle.dist_cluster.specs.Top.{ClusterList}
use Rattle.dist_repo.specs.Order.{IsLatestOf}
use Rattle.dist_repo.specs.PackageList.{PackageList}
use Rattle.dist_package.specs.RepositoryOf.{IsRepositoryOf}
use Rattle.dist_now.specs.PresentClauses.{ArePresentClauses}
use Rattle.dist_now.specs.PresentSet.{PassesClauses, PassesLiterals}
use Rattle.dist_classes.specs.Answers.{AreClassesOf, AreClustersOf}
use Rattle.dist_classes.specs.NewNames.{AreNewNames}
use Rattle.dist_classes.specs.declared.class_value.Class.{Class}
use Rattle.dist_bench.specs.Counted.{counted}
use Rattle.dist_bench.specs.declared.error.JobError.{JobError}
use Rattle.dist_bench.specs.declared.error.JobError.TheVariants.{NoPackages, TooManyClauses}

-- the text is a Packages file within the stated limits, and this is its repository
pub record IsFileOf (text : List ℕ) (r : PackageList) : Type 0 where
  pub small : length text ≤ MAX_BYTES
  pub repository : IsRepositoryOf text MAX_STANZAS r

-- the same, where the repository has a property
abbrev pub OfFile : (text : List ℕ) → (PackageList → Type 0) → Type 0
OfFile text P = (r : PackageList) × IsFileOf text r × P r

-- the repository of its newest versions
abbrev pub IsNewestOf : (text : List ℕ) → PackageList → Type 0
IsNewestOf text newest = OfFile text (λ r. IsLatestOf r newest)

abbrev pub OfNewest : (text : List ℕ) → (PackageList → Type 0) → Type 0
OfNewest text P = (newest : PackageList) × IsNewestOf text newest × P newest

-- it is no such file
abbrev pub HasNoPackages : (text : List ℕ) → JobError → Type 0
HasNoPackages text error = (error ≡ NoPackages) × ((r : PackageList) → ¬ IsFileOf text r)

-- ---- the answer of `count-packages`

abbrev pub IsPackagesText : (text answer : List ℕ) → Type 0
IsPackagesText text answer = OfFile text (λ r. answer ≡ counted (length r.packages) (codes " packages\n"))

-- ---- the clauses of the present at a mode

abbrev pub PassesPresentLimits : PackageList → (essential : Bool) → Type 0
PassesPresentLimits r essential = PassesClauses r essential MAX_CLAUSES MAX_LITERALS
    ⊎ PassesLiterals r essential MAX_CLAUSES MAX_LITERALS

-- the clauses of the present of a repository, which pass no stated limit
pub record ArePresentWithin (r : PackageList) (essential : Bool) (clauses : List (List Literal)) : Type 0 where
  pub are : ArePresentClauses r essential clauses
  pub within : ¬ PassesPresentLimits r essential

-- ---- the answer of `count-clauses`, at mode plain, and why it has none

-- so many clauses of the present it has at mode plain, which pass no stated limit
abbrev pub HasClauseCount : PackageList → (count : ℕ) → Type 0
HasClauseCount r count = (clauses : List (List Literal)) × ArePresentWithin r false clauses × (count ≡ length clauses)

-- the answer tells how many clauses of the present the packages of the text have
abbrev pub IsClausesText : (text answer : List ℕ) → Type 0
IsClausesText text answer = OfFile text (λ r. (count : ℕ) × HasClauseCount r count
    × (answer ≡ counted count (codes " clauses\n")))

abbrev pub HasNoClauses : (text : List ℕ) → JobError → Type 0
HasNoClauses text error = HasNoPackages text error
    ⊎ ((error ≡ TooManyClauses) × OfFile text (λ r. PassesPresentLimits r false))

-- ---- the answer of `count-classes`

-- so many classes the first clusters have together
pub record HaveClasses (r : PackageList) (clusters : ClusterList) (first : ℕ) (number : ℕ) : Type 0 where
  pub lists : List (List Class)
  pub one_each : length lists ≡ first
  pub are : (place : ℕ) → place < first
      → AreClassesOf r (slice_index_or clusters.members place []) (slice_index_or clusters.tops place [])
      (slice_index_or lists place [])
  pub is : number ≡ sum_by (λ list. length list) lists

-- the clusters of a repository, their classes, and its new names
pub record IsClassesText (r : PackageList) (answer : List ℕ) : Type 0 where
  pub clusters : ClusterList
  pub are_clusters : AreClustersOf r clusters
  pub classes : ℕ
  pub have_classes : HaveClasses r clusters (length clusters.members) classes
  pub names : List (List ℕ)
  pub are_names : AreNewNames r names
  pub is : answer ≡ (counted (length clusters.members) (codes " clusters, ") ++ counted classes (codes " classes, "))
      ++ counted (length names) (codes " new names\n")
