-- The classes of all clusters as the report of challenges keeps them. No public clause cites it.
use Rattle.std.specs.Prelude.{◌≡◌, ℕ, ◌+◌, ◌<◌, ◌^◌, List, [], All, IsSomeAnd, Some, filter, length, map, slice_get}
use Rattle.std.specs.Prelude.{slice_index_or}
use Rattle.std.specs.Option.{option_map_or}
use Rattle.dist_cluster.specs.Top.{ClusterList}
use Rattle.dist_repo.specs.PackageList.{PackageList}
use Rattle.dist_repo.specs.declared.package.Package.{Package}
use Rattle.dist_classes.specs.declared.class_value.Class.{Class}
use Rattle.dist_cert.specs.declared.records.Claim.{Claim}
use Rattle.dist_report.specs.ChallengedReport.{broken_by, broken_lines, class_pairs}
use Rattle.dist_report.specs.ClaimParts.{has_some}
use Rattle.dist_report.specs.ClaimPartsPrivate.{key_of, pairs_of}
use Rattle.dist_report.specs.ClassesReport.{AreToldClusters, ToldCluster}
use Rattle.dist_report.specs.Lines.{listed}
use Rattle.dist_report.specs.declared.claim_parts.Listing.{Listing}

-- each pair stands at the place that its class has behind the start of its cluster
pub record IsRow (starts : List ℕ) (pairs : List (ℕ × ℕ)) : Type 0 where
  pub few : length pairs < 2 ^ 32
  pub placed : (place : ℕ) (pair : ℕ × ℕ) → slice_get pairs place ≡ Some pair
      → (pair.0 < length starts) × (slice_index_or starts pair.0 0 + pair.1 ≡ place)

-- the pair is that of a class
abbrev pub HasClass : List (List Class) → ℕ × ℕ → Type 0
HasClass classes pair = IsSomeAnd (slice_get classes pair.0) (λ own. pair.1 < length own)

-- the clusters of a repository, and the classes of each, as they are told
pub record AreKept (r : PackageList) (clusters : ClusterList) (classes : List (List Class)) : Type 0 where
  pub told : List ToldCluster
  pub are : AreToldClusters r told
  pub some : All (λ members. 0 < length members) clusters.members
  pub members : map (λ c. c.members) told ≡ clusters.members
  pub classes_are : map (λ c. c.classes) told ≡ classes

-- the lines of the class of a pair, by what is kept
abbrev pub kept_lines : List Package → (members : List (List ℕ)) → List (List Class) → (broken : List ℕ) → ℕ × ℕ
    → List ℕ
kept_lines packages members classes broken pair = option_map_or (λ own. option_map_or
    (broken_lines packages (slice_index_or members pair.0 []) broken) (slice_get own pair.1) [])
    (slice_get classes pair.0) []

-- the same, by the place of the pair in the row
abbrev pub place_lines : List Package → (members : List (List ℕ)) → List (List Class) → List (ℕ × ℕ) → List (List ℕ) → ℕ
    → List ℕ
place_lines packages members classes row lists place = option_map_or
    (kept_lines packages members classes (slice_index_or lists place [])) (slice_get row place) []

-- a key and the classes that break some package, by what is kept
abbrev pub kept_classes : Listing → List Package → (members : List (List ℕ)) → List (List Class) → List Claim → List ℕ
kept_classes kind packages members classes made =
    listed (key_of kind) (λ pair. kept_lines packages members classes (broken_by (pairs_of kind) made pair) pair)
    (filter (λ pair. has_some (broken_by (pairs_of kind) made pair)) (class_pairs classes))
