-- What the clauses of a space mean.
use Rattle.std.specs.Prelude.{◌≡◌, ◌↔◌, ℕ, true, Bool, List, [], ◌∷◌, All, length, slice_get, Some}
use Rattle.dist_clause.specs.Formula.{Literal, IsModel, value_of}
use Rattle.dist_cluster.specs.Partition.{IsIn}
use Rattle.dist_repo.specs.declared.package.Package.{Package}
use Rattle.dist_version.specs.Spelling.{IsVersion}
use Rattle.dist_classes.specs.ClassList.{IsOfClassAt}
use Rattle.dist_repo.specs.Strong.{IsInstallable}
use Rattle.dist_future.specs.Future.{IsFuture}
use Rattle.dist_future.specs.Stands.{future_of, installation_of}
use Rattle.dist_future.specs.Outdated.{IsInstallableAt, IsInstallableLater, IsInstallationOf}
use Rattle.dist_space.specs.Space.{SpaceView, cluster_classes, example_at, variable_of}
use Rattle.dist_space.specs.declared.meaning.Meaning.{Meaning}
use Rattle.dist_space.specs.declared.meaning.Meaning.TheVariants.{Now, Present, At}

-- Some model of the clauses, with one truth value for each variable, makes all the meanings true.
pub record HasModelWith (s : SpaceView) (clauses : List (List Literal)) (meanings : List Meaning) : Type 0 where
  pub values : List Bool
  pub one_each : length values ≡ length s.meanings
  pub model : IsModel (value_of values) clauses
  pub true_meanings : All (λ m. value_of values (variable_of s m) ≡ true) meanings

-- The models of the clauses stand for futures, for the futures that hold a cluster at a version, and for today's
-- archive.
pub record StandForFutures (s : SpaceView) (clauses : List (List Literal)) : Type 0 where
  pub later : (n : ℕ) (p : Package) → slice_get s.repository.packages n ≡ Some p
      → HasModelWith s clauses (Present n ∷ []) ↔ IsInstallableLater s.essential s.repository p
  pub at_version : (n : ℕ) (p : Package) → slice_get s.repository.packages n ≡ Some p
      → (c k m : ℕ) (q : Package) → IsIn s.clusters.members c m → slice_get s.repository.packages m ≡ Some q
      → (version : List ℕ) → IsVersion version → IsOfClassAt (cluster_classes s c) k version
      → HasModelWith s clauses (Present n ∷ At c k ∷ []) ↔ IsInstallableAt s.essential s.repository q version p
  pub today : (n : ℕ) (p : Package) → slice_get s.repository.packages n ≡ Some p
      → HasModelWith s clauses (Now ∷ Present n ∷ []) ↔ IsInstallable s.essential s.repository p

-- the meaning holds under an assignment
abbrev pub holds_under : SpaceView → List Bool → Meaning → Bool
holds_under s values m = value_of values (variable_of s m)

-- the example of each class
abbrev pub examples_of : SpaceView → ℕ → ℕ → List ℕ
examples_of s c k = example_at (cluster_classes s c) k

-- the future that an assignment stands for, and the installation in it: new versions of a class are at its example
abbrev pub future_under : SpaceView → List Bool → List Package
future_under s values = future_of s (holds_under s values) (examples_of s)

abbrev pub installation_under : SpaceView → List Bool → List Package
installation_under s values = installation_of s (holds_under s values) (examples_of s)

-- The future and the installation that an assignment stands for are one, and a healthy installation in it.
pub record StandsForFuture (s : SpaceView) (values : List Bool) : Type 0 where
  pub is_future : IsFuture s.repository (future_under s values)
  pub healthy : IsInstallationOf s.essential s.repository (future_under s values) (installation_under s values)
