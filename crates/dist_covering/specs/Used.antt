-- The clusters that an installation uses.
use Rattle.std.specs.Prelude.{◌≡◌, ◌⊎◌, ℕ, ◌+◌, ◌-◌, ◌≤◌, Bool, true, List, Contains, Option, None, Some, length}
use Rattle.std.specs.Prelude.{slice_index, slice_index_or}
use Rattle.std.specs.List.{AllZip}
use Rattle.dist_clause.specs.Formula.{value_of}
use Rattle.dist_cert.specs.Form.{AreFromOne}
use Rattle.dist_cert.specs.Rising.{AreRising}
use Rattle.dist_future.specs.Pairs.{UsesNone}
use Rattle.dist_space.specs.Space.{SpaceView}
use Rattle.dist_space.specs.declared.meaning.Meaning.{Meaning}
use Rattle.dist_space.specs.declared.meaning.Meaning.TheVariants.{Now, Present, At, New, Kept, Fresh}
use Rattle.dist_subject.specs.Present.{truth_of}

-- The numbers, from 1 and rising, are those of the clusters of which an assignment has a package, as it is or new.
pub record AreUsed (s : SpaceView) (values : List Bool) (used : List ℕ) : Type 0 where
  pub rising : AreRising used
  pub from_one : AreFromOne used
  pub some : (cluster : ℕ) → Contains used (cluster + 1) → ¬ UsesNone s values cluster
  pub none : (cluster : ℕ) → ¬ Contains used (cluster + 1) → UsesNone s values cluster

-- for each installation, by its true variables, the clusters that it uses
abbrev pub AreUses : SpaceView → List (List ℕ) → List (List ℕ) → Type 0
AreUses s installed uses = AllZip (λ members used. AreUsed s (truth_of (length s.meanings) members) used) installed uses

-- the cluster of the package of a meaning, as it is or new
abbrev pub cluster_meant : SpaceView → Meaning → Option ℕ
cluster_meant s Now = None
cluster_meant s (Present r) = Some (slice_index s.cluster_of r)
cluster_meant s (At c k) = None
cluster_meant s (New r k) = Some (slice_index s.cluster_of r)
cluster_meant s (Kept r k j) = None
cluster_meant s (Fresh x k) = None

-- the cluster of the package of a variable
abbrev pub cluster_at : SpaceView → ℕ → Option ℕ
cluster_at s variable = cluster_meant s (slice_index_or s.meanings (variable - 1) Now)

-- a cluster at a class, both from 1, and zeros for other meanings
abbrev pub pair_meant : Meaning → ℕ × ℕ
pair_meant Now = (0, 0)
pair_meant (Present r) = (0, 0)
pair_meant (At c k) = (c + 1, k + 1)
pair_meant (New r k) = (0, 0)
pair_meant (Kept r k j) = (0, 0)
pair_meant (Fresh x k) = (0, 0)

-- the cluster and the class of a variable
abbrev pub pair_at : SpaceView → ℕ → ℕ × ℕ
pair_at s variable = pair_meant (slice_index_or s.meanings (variable - 1) Now)

-- one of the first n variables is true and is that of a package of the cluster
pub record Uses (s : SpaceView) (values : List Bool) (n cluster : ℕ) : Type 0 where
  pub variable : ℕ
  pub from_one : 1 ≤ variable
  pub upto : variable ≤ n
  pub holds : value_of values variable ≡ true
  pub is : cluster_at s variable ≡ Some cluster

-- the clusters that the first n variables use are flagged
pub record AreFlags (s : SpaceView) (values : List Bool) (n : ℕ) (flags : List Bool) : Type 0 where
  pub size : length flags ≡ length s.clusters.members
  pub set : (cluster : ℕ) → value_of flags (cluster + 1) ≡ true → Uses s values n cluster
  pub all : (cluster : ℕ) → Uses s values n cluster → value_of flags (cluster + 1) ≡ true

-- the cluster of one variable was flagged
pub record IsFlagged (s : SpaceView) (variable : ℕ) (old new : List Bool) : Type 0 where
  pub size : length new ≡ length old
  pub kept : (cluster : ℕ) → value_of old (cluster + 1) ≡ true → value_of new (cluster + 1) ≡ true
  pub set : (cluster : ℕ) → cluster_at s variable ≡ Some cluster → value_of new (cluster + 1) ≡ true
  pub only : (cluster : ℕ) → value_of new (cluster + 1) ≡ true
      → (value_of old (cluster + 1) ≡ true) ⊎ (cluster_at s variable ≡ Some cluster)
