-- What reading one line of LIST, and the lines so far, comes to. No public clause cites it.
use Rattle.std.specs.Prelude.{◌≡◌, ◌≢◌, ◌⊎◌, ◌<◌, true, false, slice_set, ℕ, ◌+◌, List, [], ◌∷◌, ◌++◌, length, Bool}
use Rattle.dist_control.specs.Lines.{lines}
use Rattle.dist_repo.specs.declared.package.Package.{Package}
use Rattle.dist_list.specs.LineParts.{parts_of}
use Rattle.dist_list.specs.PackageSet.{Names, IsListLine, NameSet}
use Rattle.dist_list.specs.declared.list.Line.{Line}
use Rattle.dist_list.specs.declared.list.Line.TheVariants as line
use Rattle.dist_list.specs.declared.list.Shape.{Shape}
use Rattle.dist_list.specs.declared.list.Shape.TheVariants as shape

-- the parts of a line are none, two, or of another number
abbrev pub IsShape : List ℕ → Shape → Type 0
IsShape text shape.None = parts_of text ≡ []
IsShape text (shape.Two first second) = parts_of text ≡ first.now ∷ second.now ∷ []
IsShape text shape.Other = (parts_of text ≢ []) × ((first second : List ℕ) → parts_of text ≢ first ∷ second ∷ [])

-- what one line is
abbrev pub IsLine : List Package → List ℕ → Line → Type 0
IsLine packages text line.Blank = parts_of text ≡ []
IsLine packages text (line.Package number) = Names packages text number
    × ((other : ℕ) → Names packages text other → other ≡ number)
IsLine packages text line.Bad = ¬ IsListLine packages text

-- the package that the line names was marked, and it names no other
pub record MarksOne (packages : List Package) (text : List ℕ) (old new : List Bool) : Type 0 where
  pub number : ℕ
  pub names : Names packages text number
  pub only : (other : ℕ) → Names packages text other → other ≡ number
  pub within : number < length old
  pub marked : new ≡ slice_set old number true

-- what taking a line did to the set, and whether it may stand in a list
abbrev pub Marks : List Package → (text : List ℕ) → (old new : List Bool) → Bool → Type 0
Marks packages text old new true = ((parts_of text ≡ []) × (new ≡ old)) ⊎ MarksOne packages text old new
Marks packages text old new false = ¬ IsListLine packages text

-- the lines before these were read, and name this set
pub record ReadSoFar (packages : List Package) (text rest : List ℕ) (number : ℕ) (members : List Bool) : Type 0 where
  pub done : List (List ℕ)
  pub pieces : lines text ≡ done ++ lines rest
  pub named : NameSet packages done members
  pub place : number ≡ length done + 1
