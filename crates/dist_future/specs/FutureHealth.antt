-- Where an assignment does not stand for a future and a healthy installation in it: four kinds of fault, tried in this
-- order, each with its least place.
use Rattle.std.specs.Prelude.{◌≡◌, ◌⊎◌, ℕ, ◌<◌, Bool, true, false, List, length, slice_index}
use Rattle.dist_base.specs.Least.{IsLeast, IsLeastPair, IsNoPair}
use Rattle.dist_repo.specs.PackageList.{IsPackageAnd}
use Rattle.dist_space.specs.Space.{SpaceView, IsMeaning, IsMetBy, variable_of}
use Rattle.dist_space_clauses.specs.SpaceClauses.{Excludes, IsBearer, IsItemAnd}
use Rattle.dist_future.specs.SpaceLaws.{holds_under}
use Rattle.dist_future.specs.declared.health_kind.FutureHealth.{FutureHealth}
use Rattle.dist_future.specs.declared.health_kind.FutureHealth.TheVariants.{Healthy, NotAFuture, Unmet, Conflict}
use Rattle.dist_future.specs.declared.health_kind.FutureHealth.TheVariants.{EssentialMissing}
use Rattle.dist_space.specs.declared.meaning.Meaning.{Meaning}
use Rattle.dist_space.specs.declared.meaning.Meaning.TheVariants.{Now, Present, At, New, Kept, Fresh}

-- one truth value per variable
pub record IsOneEach (s : SpaceView) (values : List Bool) : Type 0 where
  pub same : length values ≡ length s.meanings

-- a meaning of the space that holds under an assignment
pub record Holds (s : SpaceView) (values : List Bool) (m : Meaning) : Type 0 where
  pub is_meaning : IsMeaning s m
  pub is_true : holds_under s values m ≡ true

-- some meaning with a property holds
pub record SomeHolds (s : SpaceView) (values : List Bool) (P : Meaning → Type 0) : Type 0 where
  pub meaning : Meaning
  pub holds : Holds s values meaning
  pub has : P meaning

-- ---- no future

-- What no future has together: two classes of a cluster, or of a new name; a package as it is today, and a class of its
-- cluster; and today's archive has no class of a cluster, and no package of a new name.
abbrev pub AreApart : SpaceView → Meaning → Meaning → Type 0
AreApart s (At c k) (At d l) = (c ≡ d) × (k < l)
AreApart s (Fresh x k) (Fresh y l) = (x ≡ y) × (k < l)
AreApart s (Present r) (At c k) = slice_index s.cluster_of r ≡ c
AreApart s Now (At c k) = Unit {0}
AreApart s Now (Fresh x k) = Unit {0}
AreApart s m n = ⊥

-- What a future never has without the other: a new version without the class of its cluster, and a kept entry without
-- the new version that has it.
abbrev pub Needs : SpaceView → Meaning → Meaning → Type 0
Needs s (New r k) (At c l) = (slice_index s.cluster_of r ≡ c) × (k ≡ l)
Needs s (Kept r k j) (New q l) = (r ≡ q) × (k ≡ l)
Needs s m n = ⊥

-- The variables of a meaning that holds and of another one: both hold and exclude each other, or the first lacks the
-- second.
pub record AreNoFuture (s : SpaceView) (values : List Bool) (first second : ℕ) : Type 0 where
  pub one : Meaning
  pub other : Meaning
  pub first_is : variable_of s one ≡ first
  pub second_is : variable_of s other ≡ second
  pub holds : Holds s values one
  pub is_other : IsMeaning s other
  pub broken : (AreApart s one other × (holds_under s values other ≡ true))
      ⊎ (Needs s one other × (holds_under s values other ≡ false))

-- ---- no healthy installation

-- The variable of a package that is installed as it is today, and the place of an item of it, from 0, that nothing
-- meets.
pub record IsUnmetAt (s : SpaceView) (values : List Bool) (variable place : ℕ) : Type 0 where
  pub number : ℕ
  pub variable_is : variable_of s (Present number) ≡ variable
  pub installed : Holds s values (Present number)
  pub unmet : IsItemAnd s number place (λ p item. ¬ SomeHolds s values (IsMetBy s item))

-- The variable of a package that is installed as it is today, and the greater variable of something else that holds and
-- is in conflict with it: another such package, a new version, a kept entry, or a package of a new name.
pub record AreConflicting (s : SpaceView) (values : List Bool) (first second : ℕ) : Type 0 where
  pub number : ℕ
  pub other : Meaning
  pub first_is : variable_of s (Present number) ≡ first
  pub second_is : variable_of s other ≡ second
  pub installed : Holds s values (Present number)
  pub holds : Holds s values other
  pub excluded : IsPackageAnd s.repository.packages number (λ p. Excludes s number p other)

-- an essential package whose name nothing that is installed has
abbrev pub IsMissing : SpaceView → List Bool → ℕ → Type 0
IsMissing s values number =
    (s.essential ≡ true) × IsPackageAnd s.repository.packages number
    (λ p. (p.essential ≡ true) × (¬ SomeHolds s values (IsBearer s p.name)))

-- ---- the answer

-- What `health_in` answers of an assignment.
abbrev pub IsFutureHealth : SpaceView → List Bool → FutureHealth → Type 0
IsFutureHealth s values Healthy = IsNoPair (AreNoFuture s values) × IsNoPair (IsUnmetAt s values)
    × IsNoPair (AreConflicting s values) × ((n : ℕ) → ¬ IsMissing s values n)
IsFutureHealth s values (NotAFuture first second) = IsLeastPair (AreNoFuture s values) first second
IsFutureHealth s values (Unmet variable place) = IsNoPair (AreNoFuture s values)
    × IsLeastPair (IsUnmetAt s values) variable place
IsFutureHealth s values (Conflict first second) = IsNoPair (AreNoFuture s values) × IsNoPair (IsUnmetAt s values)
    × IsLeastPair (AreConflicting s values) first second
IsFutureHealth s values (EssentialMissing number) =
    IsNoPair (AreNoFuture s values) × IsNoPair (IsUnmetAt s values) × IsNoPair (AreConflicting s values)
    × IsLeast (IsMissing s values) number
