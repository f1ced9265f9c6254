-- How the variables of a checker's layout stand to those of what a certificate speaks of.
use Rattle.std.specs.Prelude.{◌≡◌, ◌⊎◌, ◌↔◌, ℕ, ◌≤◌, Any, Contains, length}
use Rattle.dist_cert.specs.Subject.{Matter, cluster_at}
use Rattle.dist_check_group.specs.Layout.{LayoutView, at_class, classes_of, cluster_of, present}

abbrev pub IsCluster : Matter → ℕ → Type 0
IsCluster matter c = (1 ≤ c) × (c ≤ length matter.clusters)

-- a cluster and a class of it
abbrev pub IsPair : Matter → ℕ × ℕ → Type 0
IsPair matter pair = IsCluster matter pair.0 × (1 ≤ pair.1) × (pair.1 ≤ (cluster_at matter pair.0).classes)

-- the variable is a package of the cluster, as it is or new
abbrev pub IsPackageIn : Matter → ℕ → ℕ → Type 0
IsPackageIn matter c v = Any (λ r. (v ≡ matter.present r)
    ⊎ ((class : ℕ) × (1 ≤ class) × (class ≤ (cluster_at matter c).classes) × (v ≡ matter.new r class)))
    (cluster_at matter c).members

-- The layout gives each package, and each cluster at a class, the variable that it has; different pairs of a cluster
-- and a class have different ones, which are no packages, as variable 1 is none where there are clusters; and for each
-- package, present or new, it names the cluster.
pub record LaysOut (matter : Matter) (layout : LayoutView) : Type 0 where
  pub present_is : (p : ℕ) → 1 ≤ p → p ≤ matter.packages → present layout.kind p ≡ matter.present p
  pub clusters : length layout.classes ≡ length matter.clusters
  pub classes : (c : ℕ) → IsCluster matter c → length (classes_of layout c) ≡ (cluster_at matter c).classes
  pub at_is : (pair : ℕ × ℕ) → IsPair matter pair → at_class layout pair ≡ matter.at pair.0 pair.1
  pub apart : (pair other : ℕ × ℕ) → IsPair matter pair → IsPair matter other
      → matter.at pair.0 pair.1 ≡ matter.at other.0 other.1 → pair ≡ other
  pub no_package : (pair : ℕ × ℕ) → IsPair matter pair → cluster_of layout (matter.at pair.0 pair.1) ≡ 0
  pub today : cluster_of layout 1 ≡ 0
  pub packages : (c v : ℕ) → IsCluster matter c → (cluster_of layout v ≡ c) ↔ IsPackageIn matter c v
  pub own : (p c : ℕ) → 1 ≤ p → p ≤ matter.packages → IsCluster matter c
      → (cluster_of layout (matter.present p) ≡ c) ↔ Contains (cluster_at matter c).members p
