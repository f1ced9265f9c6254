-- What a certificate is judged against.
use Rattle.std.specs.Prelude.{ℕ, ◌-◌, List, [], slice_index_or}
use Rattle.dist_clause.specs.Formula.{Literal}

-- a cluster: the packages that are built together, and the number of classes of its later versions
pub record Cluster : Type 0 where
  pub members : List ℕ
  pub classes : ℕ

-- What the certificates of one kind and mode speak of, and are judged against. Packages, variables, clusters and
-- classes are numbered from 1. `present` gives the variable of a package as it is, `new` that of a package at a class,
-- `at` that of a cluster at a class. The two last fields say of a set of variables that it stands for a future, and
-- that it is healthy.
pub record Matter : Type 1 where
  pub packages : ℕ
  pub variables : ℕ
  pub inputs : List (List Literal)
  pub clusters : List Cluster
  pub present : ℕ → ℕ
  pub new : ℕ → ℕ → ℕ
  pub at : ℕ → ℕ → ℕ
  pub IsFuture : List ℕ → Type 0
  pub IsHealthy : List ℕ → Type 0

-- the cluster of a number
abbrev pub cluster_at : Matter → ℕ → Cluster
cluster_at matter number = slice_index_or matter.clusters (number - 1) (record { members = []; classes = 0 })
