-- What is gathered on the way to the clauses of a space. No public clause cites it.
use Rattle.std.specs.Prelude.{◌≡◌, ◌⊎◌, ◌↔◌, ℕ, ◌<◌, true, List, [], ◌∷◌, Some, Contains, length, slice_get}
use Rattle.std.specs.Cmp.Lexicographic.{slice_cmp}
use Rattle.std.specs.List.Sorted.{IsStrictlyIncreasing}
use Rattle.std.specs.Ordering.{nat_cmp}
use Rattle.std.specs.declared.cmp.Ordering.TheVariants.{Less}
use Rattle.dist_clause.specs.ClauseList.{ClauseList}
use Rattle.dist_clause.specs.Formula.{Literal, literal}
use Rattle.dist_clause.specs.declared.clause_set.PushError.{PushError}
use Rattle.dist_relation.specs.declared.atom.Atom.{Atom}
use Rattle.dist_now.specs.Partners.{IsPartner}
use Rattle.dist_repo.specs.Match.{Matches}
use Rattle.dist_repo.specs.PackageList.{IsPackageAnd}
use Rattle.dist_repo.specs.declared.package.Package.{Package}
use Rattle.dist_space.specs.declared.meaning.Meaning.{Meaning}
use Rattle.dist_space.specs.declared.meaning.Meaning.TheVariants.{Now, Present, At, New, Kept, Fresh}
use Rattle.dist_space.specs.Space.{IsMeaning, SpaceView, variable_of}
use Rattle.dist_space_clauses.specs.SpaceClauses.{Demand, OneClass, Gone, Moved, Carried, OneFresh, Item, Apart}
use Rattle.dist_space_clauses.specs.SpaceClauses.{StaysNow, AbsentNow, Required, AreClausesOf, IsDemand, group_of}
use Rattle.dist_space_clauses.specs.SpaceClauses.{rank_of}
use Rattle.dist_space_clauses.specs.SpaceSet.{IsCause, IsSetOf}
use Rattle.dist_space_clauses.specs.declared.ends.FutureEnds.{FutureEnds}

-- a demand whose rank is below a group, a variable and a number
abbrev pub IsBelow : SpaceView → (group variable second : ℕ) → Demand → Type 0
IsBelow s group variable second d = IsDemand s d
    × (slice_cmp nat_cmp (rank_of s d) (group ∷ variable ∷ second ∷ []) ≡ Less)

-- the set has a variable for each of the space and the limits of another set, and holds the clauses of these demands
abbrev pub IsFront : SpaceView → (group variable second : ℕ) → (limits set : ClauseList) → Type 0
IsFront s group variable second limits set =
    IsSetOf s (IsBelow s group variable second) limits.clause_limit limits.literal_limit set

-- why a set with limits refuses
abbrev pub IsCauseAt : SpaceView → ClauseList → PushError → Type 0
IsCauseAt s limits = IsCause s limits.clause_limit limits.literal_limit

-- ---- whole groups

-- the same with the clauses of the groups before one
abbrev pub IsGroupsFront : SpaceView → (group : ℕ) → (limits set : ClauseList) → Type 0
IsGroupsFront s group limits set = IsSetOf s (λ d. IsDemand s d × (group_of d < group)) limits.clause_limit
    limits.literal_limit set

-- the same with all clauses
abbrev pub IsWholeSet : SpaceView → (limits set : ClauseList) → Type 0
IsWholeSet s limits set = IsSetOf s (IsDemand s) limits.clause_limit limits.literal_limit set

-- so many are the clauses of the groups before one
pub record HasCount (s : SpaceView) (group count : ℕ) : Type 0 where
  pub front : List (List Literal)
  pub are : AreClausesOf s (λ d. IsDemand s d × (group_of d < group)) front
  pub count_is : length front ≡ count

-- the three ends, by how many clauses stand before the next group
pub record HaveCounts (s : SpaceView) (ends : FutureEnds) : Type 0 where
  pub early : HasCount s 4 ends.early
  pub today : HasCount s 6 ends.today
  pub after : HasCount s 7 ends.after

-- an essential package of the name has a lesser number
abbrev pub IsNamedBelow : SpaceView → ℕ → List ℕ → Type 0
IsNamedBelow s number name = (k : ℕ) × (k < number)
    × IsPackageAnd s.repository.packages k (λ p. (p.essential ≡ true) × (p.name ≡ name))

-- a demand other than a name, or the name of an essential package with a lesser number
abbrev pub IsNamedSoFar : SpaceView → ℕ → Demand → Type 0
IsNamedSoFar s number (OneClass c k l) = Unit {0}
IsNamedSoFar s number (Gone r k) = Unit {0}
IsNamedSoFar s number (Moved r k) = Unit {0}
IsNamedSoFar s number (Carried r k j) = Unit {0}
IsNamedSoFar s number (OneFresh x k l) = Unit {0}
IsNamedSoFar s number (Item n place) = Unit {0}
IsNamedSoFar s number (Apart n other) = Unit {0}
IsNamedSoFar s number (StaysNow c k) = Unit {0}
IsNamedSoFar s number (AbsentNow x k) = Unit {0}
IsNamedSoFar s number (Required name) = IsNamedBelow s number name

-- the clauses but for those of names that only packages from a number on have
abbrev pub IsNamedFront : SpaceView → ℕ → (limits set : ClauseList) → Type 0
IsNamedFront s number limits set = IsSetOf s (λ d. IsDemand s d × IsNamedSoFar s number d) limits.clause_limit
    limits.literal_limit set

-- ---- variables that a clause speaks of

-- that a variable holds
abbrev pub positive : ℕ → Literal
positive variable = literal variable true

-- the variable of a meaning with a property
pub record IsVariableWith (s : SpaceView) (P : Meaning → Type 0) (variable : ℕ) : Type 0 where
  pub meaning : Meaning
  pub is_meaning : IsMeaning s meaning
  pub has : P meaning
  pub variable_is : variable_of s meaning ≡ variable

-- the variables of the meanings with a property, rising
pub record AreVariablesOf (s : SpaceView) (P : Meaning → Type 0) (variables : List ℕ) : Type 0 where
  pub rising : IsStrictlyIncreasing variables
  pub exact : (v : ℕ) → Contains variables v ↔ IsVariableWith s P v

-- variables were added, in some order: each new one is of a meaning with one property, and all of another property are
-- there
pub record Gathers (s : SpaceView) (old new : List ℕ) (P Q : Meaning → Type 0) : Type 0 where
  pub kept : (v : ℕ) → Contains old v → Contains new v
  pub only : (v : ℕ) → Contains new v → Contains old v ⊎ IsVariableWith s P v
  pub all : (v : ℕ) → IsVariableWith s Q v → Contains new v

-- the variables of the meanings with a property were added
abbrev pub Adds : SpaceView → (old new : List ℕ) → (Meaning → Type 0) → Type 0
Adds s old new P = Gathers s old new P P

-- the new version of a package at a class, or a kept entry of it
abbrev pub IsOfVersion : (number class : ℕ) → Meaning → Type 0
IsOfVersion number class Now = ⊥
IsOfVersion number class (Present r) = ⊥
IsOfVersion number class (At c k) = ⊥
IsOfVersion number class (New r k) = (r ≡ number) × (k ≡ class)
IsOfVersion number class (Kept r k j) = (r ≡ number) × (k ≡ class)
IsOfVersion number class (Fresh x k) = ⊥

-- a new version of a package, or a kept entry of one
abbrev pub IsLaterOf : ℕ → Meaning → Type 0
IsLaterOf number Now = ⊥
IsLaterOf number (Present r) = ⊥
IsLaterOf number (At c k) = ⊥
IsLaterOf number (New r k) = r ≡ number
IsLaterOf number (Kept r k j) = r ≡ number
IsLaterOf number (Fresh x k) = ⊥

-- a package of a new name
abbrev pub IsFresh : Meaning → Type 0
IsFresh Now = ⊥
IsFresh (Present r) = ⊥
IsFresh (At c k) = ⊥
IsFresh (New r k) = ⊥
IsFresh (Kept r k j) = ⊥
IsFresh (Fresh x k) = Unit {0}

-- a new version, a kept entry of one, or a package of a new name
abbrev pub IsLater : Meaning → Type 0
IsLater Now = ⊥
IsLater (Present r) = ⊥
IsLater (At c k) = ⊥
IsLater (New r k) = Unit {0}
IsLater (Kept r k j) = Unit {0}
IsLater (Fresh x k) = Unit {0}

-- a package as it is today that an atom matches
abbrev pub IsPresentMatched : SpaceView → Atom → Meaning → Type 0
IsPresentMatched s atom (Present r) = IsPackageAnd s.repository.packages r (Matches s.repository.architecture atom)
IsPresentMatched s atom m = ⊥

-- a package as it is today that stands behind another one and is in conflict with it
abbrev pub IsPartnerOf : SpaceView → ℕ → Meaning → Type 0
IsPartnerOf s number (Present other) = IsPartner s.repository number other
IsPartnerOf s number m = ⊥

-- a new version of a package itself
abbrev pub IsNewOf : ℕ → Meaning → Type 0
IsNewOf number Now = ⊥
IsNewOf number (Present r) = ⊥
IsNewOf number (At c k) = ⊥
IsNewOf number (New r k) = r ≡ number
IsNewOf number (Kept r k j) = ⊥
IsNewOf number (Fresh x k) = ⊥

-- a kept entry of a new version of a package
abbrev pub IsKeptOf : ℕ → Meaning → Type 0
IsKeptOf number Now = ⊥
IsKeptOf number (Present r) = ⊥
IsKeptOf number (At c k) = ⊥
IsKeptOf number (New r k) = ⊥
IsKeptOf number (Kept r k j) = r ≡ number
IsKeptOf number (Fresh x k) = ⊥

-- the one at a place
abbrev pub IsKeptAt : (number place : ℕ) → Meaning → Type 0
IsKeptAt number place Now = ⊥
IsKeptAt number place (Present r) = ⊥
IsKeptAt number place (At c k) = ⊥
IsKeptAt number place (New r k) = ⊥
IsKeptAt number place (Kept r k j) = (r ≡ number) × (j ≡ place)
IsKeptAt number place (Fresh x k) = ⊥

-- the item at a place of the package of a number
pub record IsItemAt (packages : List Package) (number place : ℕ) (item : List Atom) : Type 0 where
  pub holder : Package
  pub is_holder : slice_get packages number ≡ Some holder
  pub is_item : slice_get holder.depends place ≡ Some item
