-- The partition of members into clusters. Members are numbered by their places, clusters by the order of their least
-- members.
use Rattle.std.specs.Prelude.{ℕ, ◌<◌, ◌↔◌, List, All, AllPairs, Any, Contains, IsSomeAnd, length, slice_get}
use Rattle.std.specs.Prelude.{slice_index}
use Rattle.std.specs.List.Sorted.{IsStrictlyIncreasing}
use Rattle.dist_cluster.specs.Relation.{Member, AreTogether}

-- the member of a cluster that stands first
abbrev pub least : List ℕ → ℕ
least cluster = slice_index cluster 0

-- the member of this number is in the cluster of that number
abbrev pub IsIn : List (List ℕ) → ℕ → ℕ → Type 0
IsIn clusters c m = IsSomeAnd (slice_get clusters c) (λ cluster. Contains cluster m)

-- a cluster is one of a member if it has exactly those that are clustered with it
abbrev pub IsClusterOf : List Member → List ℕ → ℕ → Type 0
IsClusterOf members cluster m = (n : ℕ) → Contains cluster n ↔ AreTogether members m n

-- Each member is in a cluster, each cluster has some member and is the cluster of all that it has, and both members and
-- clusters rise. There is exactly one such list of clusters, and in it each member is in one cluster (the law
-- `partitions_are_one`).
pub record IsPartition (members : List Member) (clusters : List (List ℕ)) : Type 0 where
  pub every : (m : ℕ) → m < length members → Any (λ cluster. Contains cluster m) clusters
  pub some : All (λ cluster. 0 < length cluster) clusters
  pub whole : All (λ cluster. All (IsClusterOf members cluster) cluster) clusters
  pub rising : All IsStrictlyIncreasing clusters
  pub in_order : AllPairs (λ c d. least c < least d) clusters
