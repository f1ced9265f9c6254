-- The line that tells the health of a set of packages.
use Rattle.std.specs.Prelude.{◌≡◌, ℕ, ◌<◌, length, List, ◌++◌, Some, slice_get, codes}
use Rattle.dist_relation.specs.Canonical.{alternatives_text}
use Rattle.dist_relation.specs.declared.atom.Atom.{Atom}
use Rattle.dist_repo.specs.declared.package.Package.{Package}
use Rattle.dist_now.specs.declared.kinds.Health.{Health}
use Rattle.dist_now.specs.declared.kinds.Health.TheVariants.{Healthy, TwoVersions, Unmet, Conflict, EssentialMissing}
use Rattle.dist_report.specs.PackageText.{label}

-- the packages of two numbers, and a line with their labels behind some words
pub record IsPairLine (packages : List Package) (words : List ℕ) (first second : ℕ) (line : List ℕ) : Type 0 where
  pub p : Package
  pub q : Package
  pub first_is : slice_get packages first ≡ Some p
  pub second_is : slice_get packages second ≡ Some q
  pub text : line ≡ words ++ (label p ++ (codes " " ++ (label q ++ codes "\n")))

-- the package of this number has an item at this place
pub record HasItem (packages : List Package) (number place : ℕ) : Type 0 where
  pub p : Package
  pub is : slice_get packages number ≡ Some p
  pub within : place < length p.depends

-- `unmet P: ITEM`, with the item in its canonical text
pub record IsUnmetLine (packages : List Package) (number place : ℕ) (line : List ℕ) : Type 0 where
  pub p : Package
  pub is : slice_get packages number ≡ Some p
  pub item : List Atom
  pub item_is : slice_get p.depends place ≡ Some item
  pub text : line ≡ codes "unmet " ++ (label p ++ (codes ": " ++ (alternatives_text item ++ codes "\n")))

-- The line of a health. A missing name, which comes at mode essential alone, has none.
abbrev pub IsHealthText : List Package → Health → List ℕ → Type 0
IsHealthText packages Healthy line = line ≡ codes "healthy\n"
IsHealthText packages (TwoVersions p q) line = IsPairLine packages (codes "two versions ") p q line
IsHealthText packages (Unmet p place) line = IsUnmetLine packages p place line
IsHealthText packages (Conflict p q) line = IsPairLine packages (codes "conflict ") p q line
IsHealthText packages (EssentialMissing p) line = ⊥

-- the health has a line: the packages that it names are there, and so is the item
abbrev pub HasText : List Package → Health → Type 0
HasText packages Healthy = Unit {0}
HasText packages (TwoVersions p q) = (p < length packages) × (q < length packages)
HasText packages (Unmet p place) = HasItem packages p place
HasText packages (Conflict p q) = (p < length packages) × (q < length packages)
HasText packages (EssentialMissing p) = ⊥
