-- The space of the futures of a flat repository: what its variables mean, and in which order they stand. New versions
-- are taken by classes, each with an example.
use Rattle.std.specs.Prelude.{◌≡◌, ◌↔◌, ℕ, ◌+◌, ◌<◌, ◌≤◌, Bool, List, [], ◌∷◌, Option, None, Some, AllPairs, Any}
use Rattle.std.specs.Prelude.{Contains, IfSome, IsSomeAnd, count_by, length, slice_get, slice_index, slice_index_or}
use Rattle.std.specs.Prelude.{if◌then◌else◌}
use Rattle.std.specs.Cmp.Lexicographic.{slice_cmp}
use Rattle.std.specs.Option.{option_map}
use Rattle.std.specs.Ordering.{nat_cmp, is_lt, is_eq}
use Rattle.std.specs.declared.cmp.Ordering.TheVariants.{Less}
use Rattle.dist_base.specs.declared.TheConstants.{MAX_VARIABLES}
use Rattle.dist_version.specs.Order.{version_cmp}
use Rattle.dist_version.specs.Spelling.{IsVersion}
use Rattle.dist_relation.specs.Satisfies.{Satisfies}
use Rattle.dist_relation.specs.declared.atom.Atom.{Atom}
use Rattle.dist_relation.specs.declared.atom.Provide.{Provide}
use Rattle.dist_cluster.specs.Partition.{IsIn}
use Rattle.dist_cluster.specs.Top.{ClusterList}
use Rattle.dist_repo.specs.Match.{IsUsable, Matches, MatchesByEntry}
use Rattle.dist_repo.specs.Order.{IsFlat}
use Rattle.dist_repo.specs.PackageList.{PackageList, IsPackageAnd}
use Rattle.dist_classes.specs.Answers.{AreClassesOf, AreClassesOfName, AreClustersOf}
use Rattle.dist_classes.specs.ClassList.{IsOfClassAt, example_text}
use Rattle.dist_classes.specs.NewNames.{AreNewNames}
use Rattle.dist_classes.specs.declared.class_value.Class.{Class}
use Rattle.dist_classes.specs.declared.class_value.Class.TheVariants as class
use Rattle.dist_space.specs.declared.meaning.Meaning.{Meaning}
use Rattle.dist_space.specs.declared.meaning.Meaning.TheVariants.{Now, Present, At, New, Kept, Fresh}

-- What contracts see of a space: the repository and the mode; the clusters, for each package the number of its cluster,
-- and for each cluster its classes; the new names, and for each its classes; and what the variables mean, from the
-- first one on.
pub record SpaceView : Type 0 where
  pub repository : PackageList
  pub essential : Bool
  pub clusters : ClusterList
  pub cluster_of : List ℕ
  pub classes : List (List Class)
  pub names : List (List ℕ)
  pub name_classes : List (List Class)
  pub meanings : List Meaning

-- the classes of a cluster, those of the cluster of a member, and those of a new name
abbrev pub cluster_classes : SpaceView → ℕ → List Class
cluster_classes s cluster = slice_index_or s.classes cluster []

abbrev pub member_classes : SpaceView → ℕ → List Class
member_classes s member = cluster_classes s (slice_index s.cluster_of member)

abbrev pub fresh_classes : SpaceView → ℕ → List Class
fresh_classes s name = slice_index_or s.name_classes name []

-- the example of the class of a number
abbrev pub example_at : List Class → ℕ → List ℕ
example_at classes k = example_text (slice_index_or classes k class.Any)

-- ---- variables

-- What a variable may mean: numbers are in range, and a kept entry is usable.
abbrev pub IsMeaning : SpaceView → Meaning → Type 0
IsMeaning s Now = Unit {0}
IsMeaning s (Present r) = r < length s.repository.packages
IsMeaning s (At c k) = k < length (cluster_classes s c)
IsMeaning s (New r k) = (r < length s.repository.packages) × (k < length (member_classes s r))
IsMeaning s (Kept r k j) =
    IsPackageAnd s.repository.packages r (λ p. IsSomeAnd (slice_get p.provides j)
    (λ entry. IsUsable s.repository.architecture entry.qualifier))
    × (k < length (member_classes s r))
IsMeaning s (Fresh x k) = k < length (fresh_classes s x)

-- a class of a cluster or of a new name: what the archive of today has none of
abbrev pub IsChange : Meaning → Type 0
IsChange (At c k) = Unit {0}
IsChange (Fresh x k) = Unit {0}
IsChange m = ⊥

-- The order of variables: Now, then the packages; then by cluster and class, first the class itself and then each
-- member's new version, which its kept entries follow; then by new name and class.
abbrev pub key_of : SpaceView → Meaning → List ℕ
key_of s Now = 0 ∷ []
key_of s (Present r) = 1 ∷ r ∷ []
key_of s (At c k) = 2 ∷ c ∷ k ∷ []
key_of s (New r k) = 2 ∷ slice_index s.cluster_of r ∷ k ∷ r ∷ []
key_of s (Kept r k j) = 2 ∷ slice_index s.cluster_of r ∷ k ∷ r ∷ j ∷ []
key_of s (Fresh x k) = 3 ∷ x ∷ k ∷ []

abbrev pub StandsBefore : SpaceView → Meaning → Meaning → Type 0
StandsBefore s a b = slice_cmp nat_cmp (key_of s a) (key_of s b) ≡ Less

-- the meanings with a property, in order
pub record AreMeaningsOf (s : SpaceView) (P : Meaning → Type 0) (meanings : List Meaning) : Type 0 where
  pub rising : AllPairs (StandsBefore s) meanings
  pub exact : (m : Meaning) → Contains meanings m ↔ (IsMeaning s m × P m)

-- The variable of a meaning: one more than the number of meanings before it.
abbrev pub variable_of : SpaceView → Meaning → ℕ
variable_of s m = count_by (λ a. is_lt (slice_cmp nat_cmp (key_of s a) (key_of s m))) s.meanings + 1

-- ---- what the packages of variables match

-- the text of an entry's version in a new version of its package: an entry at the package's own version goes with it
abbrev pub moved_version : (old new : List ℕ) → Option (List ℕ) → Option (List ℕ)
moved_version old new None = None
moved_version old new (Some version) = if is_eq (version_cmp version old) then Some new else Some version

abbrev pub moved_entry : (old new : List ℕ) → Provide → Provide
moved_entry old new entry = record entry { version = moved_version old new entry.version }

-- the name of a variable's package
abbrev pub name_of : SpaceView → Meaning → Option (List ℕ)
name_of s Now = None
name_of s (Present r) = option_map (λ p. p.name) (slice_get s.repository.packages r)
name_of s (At c k) = None
name_of s (New r k) = option_map (λ p. p.name) (slice_get s.repository.packages r)
name_of s (Kept r k j) = option_map (λ p. p.name) (slice_get s.repository.packages r)
name_of s (Fresh x k) = slice_get s.names x

-- the version meets the atom's bound, if there is one
abbrev pub MeetsBound : Atom → List ℕ → Type 0
MeetsBound atom version = IfSome atom.bound (λ bound. Satisfies version bound)

-- A usable atom is matched by a package of the repository as ever; by a new version where it has the name and the
-- example of the class meets its bound; by a kept entry of it as the new version at the example has it; and by a
-- package of a new name where the example of its class meets the bound.
abbrev pub IsMatchedBy : SpaceView → Atom → Meaning → Type 0
IsMatchedBy s atom Now = ⊥
IsMatchedBy s atom (Present r) = IsPackageAnd s.repository.packages r (Matches s.repository.architecture atom)
IsMatchedBy s atom (At c k) = ⊥
IsMatchedBy s atom (New r k) = IsPackageAnd s.repository.packages r
    (λ p. (p.name ≡ atom.name) × MeetsBound atom (example_at (member_classes s r) k))
IsMatchedBy s atom (Kept r k j) =
    IsPackageAnd s.repository.packages r (λ p. IsSomeAnd (slice_get p.provides j)
    (λ entry. MatchesByEntry s.repository.architecture atom
    (moved_entry p.version (example_at (member_classes s r) k) entry)))
IsMatchedBy s atom (Fresh x k) = IsSomeAnd (slice_get s.names x)
    (λ name. (name ≡ atom.name) × MeetsBound atom (example_at (fresh_classes s x) k))

abbrev pub IsMatched : SpaceView → Atom → Meaning → Type 0
IsMatched s atom m = IsUsable s.repository.architecture atom.qualifier × IsMatchedBy s atom m

-- some of the atoms is matched
abbrev pub IsMetBy : SpaceView → List Atom → Meaning → Type 0
IsMetBy s atoms m = Any (λ atom. IsMatched s atom m) atoms

-- ---- the space

-- the example of the class of a number is a version of it
abbrev pub IsExample : List Class → ℕ → Type 0
IsExample classes k = IsVersion (example_at classes k) × IsOfClassAt classes k (example_at classes k)

-- The clusters, classes and new names of a flat repository.
pub record IsFrame (s : SpaceView) : Type 0 where
  pub flat : IsFlat s.repository.packages
  pub clusters : AreClustersOf s.repository s.clusters
  pub placed : (c m : ℕ) → IsIn s.clusters.members c m ↔ (slice_get s.cluster_of m ≡ Some c)
  pub classes_beside : length s.classes ≡ length s.clusters.members
  pub classes : (c : ℕ) → c < length s.clusters.members
      → AreClassesOf s.repository (slice_index_or s.clusters.members c []) (slice_index_or s.clusters.tops c [])
      (cluster_classes s c)
  pub examples : (c k : ℕ) → k < length (cluster_classes s c) → IsExample (cluster_classes s c) k
  pub names : AreNewNames s.repository s.names
  pub name_classes_beside : length s.name_classes ≡ length s.names
  pub name_classes : (x : ℕ) → x < length s.names
      → AreClassesOfName s.repository (slice_index_or s.names x []) (fresh_classes s x)
  pub name_examples : (x k : ℕ) → k < length (fresh_classes s x) → IsExample (fresh_classes s x) k

-- The space of a flat repository: these, and all that a variable may mean, in order.
pub record IsSpace (s : SpaceView) : Type 0 where
  pub frame : IsFrame s
  pub meanings : AreMeaningsOf s (λ m. Unit {0}) s.meanings

-- a variable has a meaning
pub record IsMeaningOf (s : SpaceView) (variable : ℕ) (m : Meaning) : Type 0 where
  pub space : IsSpace s
  pub is_meaning : IsMeaning s m
  pub variable_is : variable_of s m ≡ variable
  pub stated : variable ≤ MAX_VARIABLES
