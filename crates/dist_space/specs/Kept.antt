-- What a space keeps beside what contracts see of it. No public clause cites it.
use Rattle.std.specs.Prelude.{◌≡◌, ℕ, ◌<◌, ◌≤◌, ◌^◌, Bool, List, [], ◌++◌, length, slice_index_or}
use Rattle.dist_cluster.specs.Top.{ClusterList}
use Rattle.dist_repo.specs.PackageList.{PackageList}
use Rattle.dist_repo.specs.Size.{IsWithinSize}
use Rattle.dist_classes.specs.Answers.{AreClassesOf, AreClassesOfName}
use Rattle.dist_classes.specs.declared.class_value.Class.{Class}
use Rattle.dist_base.specs.declared.TheConstants.{MAX_VARIABLES}
use Rattle.dist_space.specs.declared.errors.SpaceError.{SpaceError}
use Rattle.dist_space.specs.declared.errors.SpaceError.TheVariants.{TooManyVariables, NoMemory}
use Rattle.dist_space.specs.declared.meaning.Meaning.{Meaning}
use Rattle.dist_space.specs.Space.{IsExample, IsFrame, IsSpace, SpaceView}

-- the example of each class is a version of it
abbrev pub AreExampled : List Class → Type 0
AreExampled classes = (k : ℕ) → k < length classes → IsExample classes k

-- and there are no more classes than 32 bits can number
pub record AreFewExampled (classes : List Class) : Type 0 where
  pub few : length classes < 2 ^ 32
  pub each : AreExampled classes

-- a space with as many variables as may be stated
pub record IsWhole (s : SpaceView) : Type 0 where
  pub space : IsSpace s
  pub stated : length s.meanings ≤ MAX_VARIABLES

-- for each cluster its classes, and for each new name
pub record AreClassesBeside (r : PackageList) (clusters : ClusterList) (classes : List (List Class)) : Type 0 where
  pub beside : length classes ≡ length clusters.members
  pub are : (c : ℕ) → c < length clusters.members
      → AreClassesOf r (slice_index_or clusters.members c []) (slice_index_or clusters.tops c [])
      (slice_index_or classes c [])
  pub examples : (c : ℕ) → AreExampled (slice_index_or classes c [])

pub record AreNameClassesBeside (r : PackageList) (names : List (List ℕ)) (classes : List (List Class)) : Type 0 where
  pub beside : length classes ≡ length names
  pub are : (x : ℕ) → x < length names → AreClassesOfName r (slice_index_or names x []) (slice_index_or classes x [])
  pub examples : (x : ℕ) → AreExampled (slice_index_or classes x [])

-- a frame within the stated sizes, and one of a repository at a mode
pub record IsSizedFrame (s : SpaceView) : Type 0 where
  pub frame : IsFrame s
  pub size : IsWithinSize s.repository
  pub few_names : length s.names < 2 ^ 32

pub record IsFrameOf (r : PackageList) (essential : Bool) (s : SpaceView) : Type 0 where
  pub frame : IsFrame s
  pub repository : s.repository ≡ r
  pub essential_is : s.essential ≡ essential

-- a list was extended by a part, within a limit
abbrev pub IsExtended : ℕ → (old part new : List Meaning) → Type 0
IsExtended limit old part new = (new ≡ old ++ part) × (length new ≤ limit)

-- why a list of so many elements was not made
abbrev pub IsFull : (limit count : ℕ) → SpaceError → Type 0
IsFull limit count TooManyVariables = limit < count
IsFull limit count NoMemory = Unit {0}
