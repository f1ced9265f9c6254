-- The top of a cluster: its greatest version, rebuild suffix included.
use Rattle.std.specs.Prelude.{◌≡◌, ◌≢◌, ℕ, ◌<◌, List, [], Any, IsSomeAnd, length, slice_get, slice_index_or}
use Rattle.std.specs.Cmp.Lexicographic.{slice_cmp}
use Rattle.std.specs.Ordering.{nat_cmp}
use Rattle.std.specs.declared.cmp.Ordering.TheVariants.{Less, Equal}
use Rattle.dist_version.specs.Order.{version_cmp, IsBelow}
use Rattle.dist_cluster.specs.Relation.{Member}

-- some member of the cluster has this version
abbrev pub IsVersionIn : List Member → List ℕ → List ℕ → Type 0
IsVersionIn members cluster version = Any (λ n. IsSomeAnd (slice_get members n) (λ m. m.version ≡ version)) cluster

-- A version of the cluster that none of it exceeds, in the text that is least in bytes where equal ones differ.
pub record IsTop (members : List Member) (cluster top : List ℕ) : Type 0 where
  pub there : IsVersionIn members cluster top
  pub greatest : (version : List ℕ) → IsVersionIn members cluster version → ¬ IsBelow top version
  pub least_text : (version : List ℕ) → IsVersionIn members cluster version → version_cmp top version ≡ Equal
      → slice_cmp nat_cmp version top ≢ Less

-- What contracts see of clusters: for each its members, by their numbers, and its top.
pub record ClusterList : Type 0 where
  pub members : List (List ℕ)
  pub tops : List (List ℕ)

-- each cluster has its top beside it
pub record AreTops (members : List Member) (clusters : ClusterList) : Type 0 where
  pub aligned : length clusters.tops ≡ length clusters.members
  pub each : (c : ℕ) → c < length clusters.members
      → IsTop members (slice_index_or clusters.members c []) (slice_index_or clusters.tops c [])
