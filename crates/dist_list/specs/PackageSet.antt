-- LIST: a text whose lines name packages of a repository.
use Rattle.std.specs.Prelude.{◌≡◌, ◌⊎◌, ◌↔◌, ℕ, ◌+◌, true, Bool, List, [], ◌∷◌, ◌++◌, length, All, Contains, Some}
use Rattle.std.specs.Prelude.{slice_get}
use Rattle.dist_control.specs.Lines.{lines}
use Rattle.dist_version.specs.Spelling.{IsVersion}
use Rattle.dist_repo.specs.Providers.{IsPackageAt}
use Rattle.dist_repo.specs.declared.package.Package.{Package}
use Rattle.dist_list.specs.LineParts.{parts_of}
use Rattle.dist_list.specs.declared.list.ListError.{ListError}
use Rattle.dist_list.specs.declared.list.ListError.TheVariants.{Bad, NoMemory}

-- The line is a name and a version, with spaces or tabs between them and perhaps at both ends. The package of this
-- number has that name and an equal version.
pub record Names (packages : List Package) (line : List ℕ) (number : ℕ) : Type 0 where
  pub name : List ℕ
  pub version : List ℕ
  pub spelled : parts_of line ≡ name ∷ version ∷ []
  pub is_version : IsVersion version
  pub found : IsPackageAt packages number name version

-- a line is blank or names a package
abbrev pub IsListLine : List Package → List ℕ → Type 0
IsListLine packages line = (parts_of line ≡ []) ⊎ ((number : ℕ) × Names packages line number)

-- some line names the package of this number
abbrev pub IsInList : List Package → List (List ℕ) → ℕ → Type 0
IsInList packages list number = (line : List ℕ) × Contains list line × Names packages line number

-- Each of the lines is blank or names a package. The set has one truth value per package: whether a line names it.
pub record NameSet (packages : List Package) (list : List (List ℕ)) (members : List Bool) : Type 0 where
  pub each : All (IsListLine packages) list
  pub one_each : length members ≡ length packages
  pub named : (number : ℕ) → (slice_get members number ≡ Some true) ↔ IsInList packages list number

abbrev pub NamesSet : List Package → (text : List ℕ) → List Bool → Type 0
NamesSet packages text members = NameSet packages (lines text) members

-- the first line, by its number from 1, that is not blank and names no package
pub record IsBadAt (packages : List Package) (text : List ℕ) (number : ℕ) : Type 0 where
  pub before : List (List ℕ)
  pub line : List ℕ
  pub after : List (List ℕ)
  pub split : lines text ≡ before ++ line ∷ after
  pub each_before : All (IsListLine packages) before
  pub bad : ¬ IsListLine packages line
  pub place : number ≡ length before + 1

-- why a text names no set
abbrev pub IsBadList : List Package → (text : List ℕ) → ListError → Type 0
IsBadList packages text (Bad number) = IsBadAt packages text number
IsBadList packages text NoMemory = ⊥
