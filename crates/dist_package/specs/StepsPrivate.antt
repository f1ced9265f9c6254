-- What the private steps of the reader say.
use Rattle.std.specs.Prelude.{◌≡◌, ◌≢◌, ◌⊎◌, ℕ, false, List, ◌∷◌, Option, None, Some, unwrap_or, IsPermutation}
use Rattle.dist_control.specs.ControlText.{IsReading}
use Rattle.dist_control.specs.Faults as control
use Rattle.dist_control.specs.RawStanza.{RawStanza}
use Rattle.dist_control.specs.Reader.{HasNext}
use Rattle.dist_control.specs.Unread.{Unread}
use Rattle.dist_control.specs.declared.error.ControlError.{ControlError}
use Rattle.dist_control.specs.declared.field_list.Stanza.{Stanza}
use Rattle.dist_repo.specs.Held.{Held, IsHeld, IsFree, IsClashAt}
use Rattle.dist_repo.specs.declared.package.Package.{Package}
use Rattle.dist_package.specs.declared.error.Fault.{Fault}
use Rattle.dist_package.specs.declared.error.Kind.TheVariants.{Clash}
use Rattle.dist_package.specs.declared.package.Described.{Described}
use Rattle.dist_package.specs.Named.{fault_on}
use Rattle.dist_package.specs.PackageOf.{IsPackageOf, all}
use Rattle.dist_package.specs.FirstFault.{IsLineFault, HasFieldFault}

-- the next raw stanza has a reading, and its fields give this
pub record GivesPackage (earlier : Option (List ℕ)) (old new : Unread) (described : Described) : Type 0 where
  pub raw : RawStanza
  pub stanza : Stanza
  pub left : old.left ≡ raw ∷ new.left
  pub going : new.refused ≡ false
  pub reading : IsReading raw stanza
  pub is_package : IsPackageOf earlier stanza described.package_ (unwrap_or described.architecture all)
  pub not_all : described.architecture ≢ Some all
  pub line_is : described.line ≡ raw.line

abbrev pub Gives : (earlier : Option (List ℕ)) → (old new : Unread) → Option Described → Type 0
Gives earlier old new None = ¬ HasNext old
Gives earlier old new (Some described) = GivesPackage earlier old new described

-- the next raw stanza has this fault, of its lines or of its fields
pub record IsFaulty (earlier : Option (List ℕ)) (old : Unread) (fault : Fault) : Type 0 where
  pub raw : RawStanza
  pub rest : List RawStanza
  pub left : old.left ≡ raw ∷ rest
  pub cause : ((error : ControlError) × control.HasFault raw error × IsLineFault error fault)
      ⊎ ((stanza : Stanza) × IsReading raw stanza × HasFieldFault earlier stanza fault)

-- a package is held now, since it was or is new, and no other of that name and with an equal version is
pub record Adds (old new : List Held) (p : Package) (line : ℕ) : Type 0 where
  pub alone : (kept : ℕ) → ¬ IsClashAt old p kept
  pub held : (IsHeld old p × (new ≡ old)) ⊎ (IsFree old p × IsPermutation ((p, line) ∷ old) new)

-- another package of that name and with an equal version is held
abbrev pub IsClashFault : (held : List Held) → Package → (line : ℕ) → Fault → Type 0
IsClashFault held p line fault = (kept : ℕ) × IsClashAt held p kept × (fault ≡ fault_on line (Clash kept))
