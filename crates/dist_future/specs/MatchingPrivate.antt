-- What is looked for on the way to the health of an assignment. No public clause cites it.
use Rattle.std.specs.Prelude.{◌≡◌, ◌≢◌, ◌⊎◌, ℕ, ◌≤◌, Bool, false, List, Option, None, Some, IsSomeAnd, slice_get}
use Rattle.dist_relation.specs.declared.atom.Atom.{Atom}
use Rattle.dist_repo.specs.declared.package.Package.{Package}
use Rattle.dist_future.specs.FutureHealth.{Holds, SomeHolds}
use Rattle.dist_space.specs.Space.{SpaceView, IsChange, IsMatchedBy, IsMetBy, variable_of}
use Rattle.dist_future.specs.SpaceLaws.{holds_under}
use Rattle.dist_space.specs.declared.meaning.Meaning.{Meaning}
use Rattle.dist_space.specs.declared.meaning.Meaning.TheVariants.{Present, New, Kept}

-- the lesser of two numbers, each of which may be missing
abbrev pub IsLesserOf : (first second least : Option ℕ) → Type 0
IsLesserOf None second least = least ≡ second
IsLesserOf (Some a) None least = least ≡ Some a
IsLesserOf (Some a) (Some b) least = IsSomeAnd least (λ n. (n ≤ a) × (n ≤ b) × ((n ≡ a) ⊎ (n ≡ b)))

-- the variable of a meaning of some kind that holds, and that an atom matches
pub record IsFound (s : SpaceView) (values : List Bool) (atom : Atom) (P : Meaning → Type 0) (variable : ℕ) : Type 0
  where
    pub meaning : Meaning
    pub variable_is : variable_of s meaning ≡ variable
    pub holds : Holds s values meaning
    pub matched : IsMatchedBy s atom meaning
    pub kind : P meaning

-- the new versions of members, and their kept entries, but for those of one
abbrev pub IsMovedBut : Option ℕ → Meaning → Type 0
IsMovedBut but (New q l) = but ≢ Some q
IsMovedBut but (Kept q l j) = but ≢ Some q
IsMovedBut but m = ⊥

-- a package is installed as it is today, or a new version of it
abbrev pub IsInstalled : ℕ → Meaning → Type 0
IsInstalled r (Present q) = q ≡ r
IsInstalled r (New q l) = q ≡ r
IsInstalled r m = ⊥

-- a package as it is today, but for one
abbrev pub IsPresentBut : Option ℕ → Meaning → Type 0
IsPresentBut but (Present q) = but ≢ Some q
IsPresentBut but m = ⊥

-- all that packages other than one bring about
abbrev pub IsOther : Option ℕ → Meaning → Type 0
IsOther but (Present q) = but ≢ Some q
IsOther but (New q l) = but ≢ Some q
IsOther but (Kept q l j) = but ≢ Some q
IsOther but m = Unit {0}

-- ---- no future

-- the variable of a class of a cluster or of a new name that holds
pub record IsChangeAt (s : SpaceView) (values : List Bool) (variable : ℕ) : Type 0 where
  pub meaning : Meaning
  pub variable_is : variable_of s meaning ≡ variable
  pub holds : Holds s values meaning
  pub change : IsChange meaning

-- the variable of one of numbered meanings, from a number on, that holds
pub record IsHeldFrom (s : SpaceView) (values : List Bool) (numbered : ℕ → Meaning) (start variable : ℕ) : Type 0 where
  pub number : ℕ
  pub from : start ≤ number
  pub variable_is : variable_of s (numbered number) ≡ variable
  pub holds : Holds s values (numbered number)

-- the variable of a meaning that does not hold
abbrev pub IsLacking : SpaceView → List Bool → Meaning → ℕ → Type 0
IsLacking s values m variable = (variable_of s m ≡ variable) × (holds_under s values m ≡ false)

-- ---- no healthy installation

-- the item at a place of the dependencies of the package of a number
pub record IsItemAt (s : SpaceView) (number place : ℕ) (item : List Atom) : Type 0 where
  pub holder : Package
  pub is_holder : slice_get s.repository.packages number ≡ Some holder
  pub is_item : slice_get holder.depends place ≡ Some item

-- an item that nothing meets
abbrev pub IsUnmetItem : SpaceView → List Bool → List (List Atom) → ℕ → Type 0
IsUnmetItem s values items place = IsSomeAnd (slice_get items place) (λ item. ¬ SomeHolds s values (IsMetBy s item))

-- the variable of another package's meaning that holds, and that one of the atoms matches
pub record IsRejectedBy (s : SpaceView) (values : List Bool) (number : ℕ) (atoms : List Atom) (variable : ℕ) : Type 0
  where
    pub meaning : Meaning
    pub variable_is : variable_of s meaning ≡ variable
    pub holds : Holds s values meaning
    pub other : IsOther (Some number) meaning
    pub matched : IsMetBy s atoms meaning

-- a package as it is today rejects what holds beside it
pub record IsRejectedFrom (s : SpaceView) (values : List Bool) (first second : ℕ) : Type 0 where
  pub number : ℕ
  pub p : Package
  pub is : slice_get s.repository.packages number ≡ Some p
  pub first_is : variable_of s (Present number) ≡ first
  pub installed : Holds s values (Present number)
  pub rejected : IsRejectedBy s values number p.conflicts second
