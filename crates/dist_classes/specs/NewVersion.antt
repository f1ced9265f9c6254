-- New versions of a package of the repository, and packages of new names. What they depend on and conflict with is
-- free.
use Rattle.std.specs.Prelude.{◌≡◌, ◌⊎◌, ℕ, Bool, true, false, List, [], ◌∷◌, Option, Any, IsSomeAnd}
use Rattle.std.specs.declared.cmp.Ordering.TheVariants.{Equal}
use Rattle.dist_version.specs.Order.{version_cmp}
use Rattle.dist_version.specs.Spelling.{IsVersion}
use Rattle.dist_relation.specs.declared.atom.Provide.{Provide}
use Rattle.dist_repo.specs.Match.{IsUsable}
use Rattle.dist_repo.specs.declared.package.Package.{Package}

-- the entry of Provides has a version that is equal to this one
abbrev pub IsAt : Provide → List ℕ → Type 0
IsAt entry version = IsSomeAnd entry.version (λ v. version_cmp v version ≡ Equal)

-- A usable entry at the package's own version is moving: it goes with the package to a new version, and makes cuts. One
-- that is not usable goes with it too, but nothing matches it.
abbrev pub IsMoving : Option (List ℕ) → Package → Provide → Type 0
IsMoving architecture p entry = IsUsable architecture entry.qualifier × IsAt entry p.version

-- the package's name, or the name of a moving entry: the names that a new version has at its own version
abbrev pub IsMovedName : Option (List ℕ) → Package → List ℕ → Type 0
IsMovedName architecture p name = (p.name ≡ name)
    ⊎ Any (λ entry. IsMoving architecture p entry × (entry.name ≡ name)) p.provides

-- An entry at the old version is carried to the new one, in any text that spells it. Any other entry stays as it is.
pub record IsCarried (old new : List ℕ) (entry carried : Provide) : Type 0 where
  pub name : carried.name ≡ entry.name
  pub qualifier : carried.qualifier ≡ entry.qualifier
  pub moved : IsAt entry old → IsAt carried new
  pub spelled : IsAt entry old → IsSomeAnd carried.version IsVersion
  pub stays : ¬ IsAt entry old → carried.version ≡ entry.version

-- of the old entries those that are kept, each carried, in their order
abbrev pub AreCarried : (old new : List ℕ) → List Bool → (entries carried : List Provide) → Type 0
AreCarried old new [] [] carried = carried ≡ []
AreCarried old new (true ∷ kept) (entry ∷ entries) carried = (first : Provide) × (rest : List Provide)
    × (carried ≡ first ∷ rest) × IsCarried old new entry first × AreCarried old new kept entries rest
AreCarried old new (false ∷ kept) (entry ∷ entries) carried = AreCarried old new kept entries carried
AreCarried old new kept entries carried = ⊥

-- A new version of a package has its name, and provides what it provided, with any entries left out and those at the
-- package's own version carried to the new one.
pub record IsNewVersionOf (p : Package) (kept : List Bool) (new : Package) : Type 0 where
  pub name : new.name ≡ p.name
  pub version : IsVersion new.version
  pub provides : AreCarried p.version new.version kept p.provides new.provides

-- with some entries kept
abbrev pub IsNewOf : Package → Package → Type 0
IsNewOf p new = (kept : List Bool) × IsNewVersionOf p kept new

-- A package of a new name provides nothing.
pub record IsOfNewName (fresh : List ℕ) (new : Package) : Type 0 where
  pub name : new.name ≡ fresh
  pub version : IsVersion new.version
  pub provides : new.provides ≡ []
