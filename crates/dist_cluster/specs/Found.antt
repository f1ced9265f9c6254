-- What is found of clusters while the members are gone through, one after another. No public clause cites it.
use Rattle.std.specs.Prelude.{◌≡◌, ◌↔◌, ℕ, ◌<◌, ◌≤◌, ◌^◌, List, Option, All, AllPairs, Some, length, slice_get}
use Rattle.std.specs.BTreeMap.{is_at}
use Rattle.std.specs.List.Sorted.{IsStrictlyIncreasing}
use Rattle.std.specs.Map.{lookup}
use Rattle.std.specs.Cmp.Lexicographic.{slice_cmp}
use Rattle.std.specs.Ordering.{nat_cmp, ordering_then}
use Rattle.std.specs.declared.cmp.Ordering.{Ordering}
use Rattle.dist_version.specs.Order.{version_cmp}
use Rattle.dist_cluster.specs.Partition.{least, IsIn}
use Rattle.dist_cluster.specs.Relation.{Member, AreClustered}
use Rattle.dist_cluster.specs.TotalLaws.{member_cmp}

-- the number that a map has for a member
abbrev pub number_at : List (Member × ℕ) → Member → Option ℕ
number_at numbers q = lookup (is_at (member_cmp q)) numbers

-- what a map of numbers of clusters, the clusters, and the number of the cluster of each member are, for so many first
-- members
pub record AreFound (members : List Member) (count : ℕ) (numbers : List (Member × ℕ)) (clusters : List (List ℕ))
    (cluster_of : List ℕ) : Type 0 where
  pub counted : length cluster_of ≡ count
  pub few : length clusters ≤ count
  pub rising : All IsStrictlyIncreasing clusters
  pub in_order : AllPairs (λ c d. least c < least d) clusters
  pub some : All (λ cluster. 0 < length cluster) clusters
  pub placed : (c m : ℕ) → IsIn clusters c m ↔ (slice_get cluster_of m ≡ Some c)
  pub numbered : (m c : ℕ) (member : Member) → slice_get members m ≡ Some member → slice_get cluster_of m ≡ Some c
      → number_at numbers member ≡ Some c
  pub apart : (p q : Member) (c : ℕ) → number_at numbers p ≡ Some c → number_at numbers q ≡ Some c → AreClustered p q
  pub within : (q : Member) (c : ℕ) → number_at numbers q ≡ Some c → c < length clusters

-- clusters as they are kept: each has its top, their numbers fit in 32 bits, and each member has the number of its
-- cluster
pub record IsListed (clusters tops : List (List ℕ)) (cluster_of : List ℕ) : Type 0 where
  pub aligned : length tops ≡ length clusters
  pub few : length clusters < 2 ^ 32
  pub placed : (c m : ℕ) → IsIn clusters c m ↔ (slice_get cluster_of m ≡ Some c)

-- versions in order, and equal ones with the lesser text above
abbrev pub top_cmp : List ℕ → List ℕ → Ordering
top_cmp a b = ordering_then (version_cmp a b) (slice_cmp nat_cmp b a)
