-- Pairs of a cluster and a class, and what the models of a space's clauses say of them and of outdated packages.
use Rattle.std.specs.Prelude.{◌≡◌, ◌⊎◌, ◌↔◌, ℕ, ◌<◌, true, false, Bool, List, [], ◌∷◌, Some, length, slice_get}
use Rattle.dist_version.specs.Spelling.{IsVersion}
use Rattle.dist_clause.specs.Formula.{Literal, IsModel, value_of}
use Rattle.dist_cluster.specs.Partition.{IsIn}
use Rattle.dist_repo.specs.declared.package.Package.{Package}
use Rattle.dist_classes.specs.ClassList.{IsOfClassAt}
use Rattle.dist_space.specs.Space.{SpaceView, cluster_classes}
use Rattle.dist_space.specs.declared.meaning.Meaning.TheVariants.{Now, Present, At, New}
use Rattle.dist_future.specs.Outdated.{Challenges, IsInstallableAt, IsOutdated}
use Rattle.dist_future.specs.SpaceLaws.{HasModelWith, holds_under}

-- q is a package of the pair's cluster, and the version is one of the pair's class
pub record IsOfPair (s : SpaceView) (cluster class : ℕ) (q : Package) (version : List ℕ) : Type 0 where
  pub member : ℕ
  pub in_cluster : IsIn s.clusters.members cluster member
  pub is : slice_get s.repository.packages member ≡ Some q
  pub is_version : IsVersion version
  pub of_class : IsOfClassAt (cluster_classes s cluster) class version

-- No package of the cluster is installed, neither as it is today nor in a new version.
abbrev pub UsesNone : SpaceView → List Bool → (cluster : ℕ) → Type 0
UsesNone s values cluster = (m : ℕ) → IsIn s.clusters.members cluster m → (holds_under s values (Present m) ≡ false)
    × ((class : ℕ) → class < length (cluster_classes s cluster) → holds_under s values (New m class) ≡ false)

-- An assignment covers a pair where it uses no package of the cluster, or has the cluster at the class.
abbrev pub Covers : SpaceView → List Bool → (cluster class : ℕ) → Type 0
Covers s values cluster class = UsesNone s values cluster ⊎ (holds_under s values (At cluster class) ≡ true)

-- What the models say of the package p of number n. It is outdated exactly where no model has it. Each version of a
-- pair's class challenges it, where it is outside of the pair's cluster, exactly where some model of today has it and
-- no model has it beside the cluster at the class. A model that has it and covers a pair says that it is installable in
-- a future that holds the cluster at any version of the class, so that none of these versions challenges it.
pub record TellOfPackage (s : SpaceView) (clauses : List (List Literal)) (n : ℕ) (p : Package) : Type 0 where
  pub outdated : IsOutdated s.essential s.repository p ↔ (¬ HasModelWith s clauses (Present n ∷ []))
  pub challenged : (cluster class : ℕ) (q : Package) (version : List ℕ) → IsOfPair s cluster class q version
      → ¬ IsIn s.clusters.members cluster n → Challenges s.essential s.repository q version p
      ↔ (HasModelWith s clauses (Now ∷ Present n ∷ []) × (¬ HasModelWith s clauses (Present n ∷ At cluster class ∷ [])))
  pub covered : (cluster class : ℕ) (q : Package) (version : List ℕ) → IsOfPair s cluster class q version
      → (values : List Bool) → IsModel (value_of values) clauses → holds_under s values (Present n) ≡ true
      → Covers s values cluster class → IsInstallableAt s.essential s.repository q version p
