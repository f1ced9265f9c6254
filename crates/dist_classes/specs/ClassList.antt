-- Classes of versions, their lists between cuts, the texts of classes and of an example in each.
use Rattle.std.specs.Prelude.{◌≡◌, ℕ, List, [], ◌∷◌, ◌++◌, IsSomeAnd, codes, length, slice_get}
use Rattle.std.specs.declared.cmp.Ordering.TheVariants.{Equal}
use Rattle.dist_version.specs.Between.{above_text, below_text}
use Rattle.dist_version.specs.Order.{version_cmp, IsBelow}
use Rattle.dist_version.specs.Spelling.{IsVersion}
use Rattle.dist_classes.specs.Cuts.{Rises, RisesFrom}
use Rattle.dist_classes.specs.declared.class_value.Class.{Class}
use Rattle.dist_classes.specs.declared.class_value.Class.TheVariants.{Point, Between, Above, Below, Any}

-- a version is of a class
abbrev pub IsOfClass : Class → List ℕ → Type 0
IsOfClass (Point c) v = version_cmp v c ≡ Equal
IsOfClass (Between a b) v = IsBelow a v × IsBelow v b
IsOfClass (Above a) v = IsBelow a v
IsOfClass (Below b) v = IsBelow v b
IsOfClass Any v = Unit {0}

-- the classes of the versions above a top, between and at its cuts
abbrev pub classes_above : List ℕ → List (List ℕ) → List Class
classes_above top [] = Above top ∷ []
classes_above top (cut ∷ cuts) = Between top cut ∷ Point cut ∷ classes_above cut cuts

-- the classes of all versions, between and at cuts
abbrev pub classes_of_all : List (List ℕ) → List Class
classes_of_all [] = Any ∷ []
classes_of_all (cut ∷ cuts) = Below cut ∷ Point cut ∷ classes_above cut cuts

-- the class of this number has the version
abbrev pub IsOfClassAt : List Class → ℕ → List ℕ → Type 0
IsOfClassAt classes number v = IsSomeAnd (slice_get classes number) (λ class. IsOfClass class v)

-- one class has the version, and no other does
pub record IsInOneClass (classes : List Class) (v : List ℕ) : Type 0 where
  pub number : ℕ
  pub holds : IsOfClassAt classes number v
  pub alone : (other : ℕ) → IsOfClassAt classes other v → other ≡ number

-- some class has both versions
pub record AreInOneClass (classes : List Class) (v w : List ℕ) : Type 0 where
  pub number : ℕ
  pub first : IsOfClassAt classes number v
  pub second : IsOfClassAt classes number w

-- what the list of classes of a cluster or of a new name is
pub record AreClassesAbove (classes : List Class) : Type 0 where
  pub top : List ℕ
  pub cuts : List (List ℕ)
  pub rising : RisesFrom top cuts
  pub are : classes ≡ classes_above top cuts

-- the classes of all versions, for a new name
pub record AreClassesOfAll (classes : List Class) : Type 0 where
  pub cuts : List (List ℕ)
  pub rising : Rises cuts
  pub are : classes ≡ classes_of_all cuts

-- a class has versions: where it lies between two, the first is below the second
abbrev pub HasVersions : Class → Type 0
HasVersions (Between a b) = IsBelow a b
HasVersions class = Unit {0}

-- an example of a class, just above its lower end or below its upper one
abbrev pub example_text : Class → List ℕ
example_text (Point v) = v
example_text (Between a b) = above_text a (length b)
example_text (Above a) = above_text a 0
example_text (Below b) = below_text b
example_text Any = codes "0"

-- the example is a version, and of the class
abbrev pub HasExample : Class → Type 0
HasExample class = IsVersion (example_text class) × IsOfClass class (example_text class)

-- the text of a class, by the operators of Debian Policy 7.1
abbrev pub class_text : Class → List ℕ
class_text (Point v) = codes "= " ++ v
class_text (Between a b) = codes ">> " ++ (a ++ (codes ", << " ++ b))
class_text (Above a) = codes ">> " ++ a
class_text (Below b) = codes "<< " ++ b
class_text Any = codes "any"
