-- What is kept while the group of a claim is settled.
use Rattle.std.specs.Prelude.{◌≡◌, ◌≢◌, ◌↔◌, ℕ, ◌+◌, ◌<◌, ◌≤◌, Bool, true, false, List, [], ◌∷◌, ◌++◌, All, Any}
use Rattle.std.specs.Prelude.{Contains, length}
use Rattle.std.specs.List.{list_any}
use Rattle.dist_clause.specs.Formula.{value_of}
use Rattle.dist_outside.specs.DeskView.{DeskView, FileGrew}
use Rattle.dist_outside.specs.declared.trouble.WorkError.{WorkError}
use Rattle.dist_cert.specs.declared.records.CertKind.TheVariants as kinds
use Rattle.dist_cert.specs.declared.records.CertRecord.{CertRecord}
use Rattle.dist_cert.specs.declared.records.CertRecord.TheVariants.{Question}
use Rattle.dist_cert.specs.Form.{Word}
use Rattle.dist_cert.specs.Groups as lines
use Rattle.dist_cert.specs.ClaimRules.{yes, no}
use Rattle.dist_cert.specs.FileLines.{lines_text}
use Rattle.dist_line_write.specs.Asking.{AskerView}
use Rattle.dist_sweep.specs.Asking.{IsAt}
use Rattle.dist_sweep.specs.Script.{Setting, Stops, matter_in}
use Rattle.dist_strong.specs.Group.{GroupView, is_open}
use Rattle.dist_sweep.specs.Window.{WindowView, IsWindowAt}

-- The certificate is of kind strong, where the packages are the variables.
pub record IsOfStrong (g : Setting) : Type 0 where
  pub kind : g.header.kind ≡ kinds.Strong
  pub same : (matter_in g).variables ≡ (matter_in g).packages

-- the question of a package without another one
abbrev pub without : ℕ → ℕ → List Word
without p q = yes p ∷ no q ∷ []

-- the packages are noted for which that question was closed in one way
abbrev pub AreNoted : GroupView → List Bool → (List Word → Type 0) → Type 0
AreNoted group flags IsClosed = (q : ℕ) → 1 ≤ q → q ≤ group.variables → value_of flags q ≡ true → (q ≢ group.claimed)
    × IsClosed (without group.claimed q)

-- the lists are over all variables
pub record HasSizes (group : GroupView) : Type 0 where
  pub common : length group.common ≡ group.variables
  pub refuted : length group.refuted ≡ group.variables
  pub undecided : length group.undecided ≡ group.variables

-- What is kept of the group of the next claim is what its lines hold, once an installation with the package was found.
pub record IsGroupAt (g : Setting) (before : List CertRecord) (group : GroupView) : Type 0 where
  pub claimed : group.claimed ≡ lines.claim_count before + 1
  pub from_one : 1 ≤ group.claimed
  pub upto : group.claimed ≤ group.variables
  pub variables : group.variables ≡ (matter_in g).packages
  pub sizes : HasSizes group
  pub some : 0 < length (lines.installations (lines.group before))
  pub each : All (λ members. Contains members group.claimed) (lines.installations (lines.group before))
  pub common : (q : ℕ) → 1 ≤ q → q ≤ group.variables → (value_of group.common q ≡ true)
      ↔ All (λ members. Contains members q) (lines.installations (lines.group before))
  pub refuted : AreNoted group group.refuted (lines.IsRefutedIn (lines.group before))
  pub undecided : AreNoted group group.undecided (lines.IsUndecidedIn (lines.group before))
  pub apart : (q : ℕ) → 1 ≤ q → value_of group.refuted q ≡ true → value_of group.undecided q ≡ false
  pub asked : (q : ℕ) → 1 ≤ q → q ≤ group.variables → Contains (lines.group before) (Question (without group.claimed q))
      → is_open group q ≡ false

-- All that is kept is what these lines hold.
pub record IsSettling (g : Setting) (before : List CertRecord) (a : AskerView) (w : WindowView)
    (group : GroupView) : Type 0 where
  pub of_strong : IsOfStrong g
  pub at : IsAt g before a
  pub window : IsWindowAt before w
  pub group_at : IsGroupAt g before group

-- More lines were written, and all that is kept is what they hold too.
pub record Settles (g : Setting) (before : List CertRecord) (old new : DeskView) (a : AskerView) (w : WindowView)
    (group : GroupView) : Type 0 where
  pub added : List CertRecord
  pub grew : FileGrew (lines_text added) old new
  pub no_claims : list_any lines.is_claim added ≡ false
  pub settling : IsSettling g (before ++ added) a w group

-- no package is open that was not, and one of them is no longer
pub record IsFurther (old new : GroupView) (q : ℕ) : Type 0 where
  pub variables : new.variables ≡ old.variables
  pub claimed : new.claimed ≡ old.claimed
  pub fewer : (r : ℕ) → 1 ≤ r → r ≤ old.variables → is_open new r ≡ true → is_open old r ≡ true
  pub closed : is_open new q ≡ false

-- What the calls of a group are given, apart from the lines.
pub record Fits (a : AskerView) (w : WindowView) (group : GroupView) : Type 0 where
  pub limit : 1 ≤ a.limit
  pub variables : a.log.variables ≡ group.variables
  pub window : w.variables ≡ group.variables
  pub from_one : 1 ≤ group.claimed
  pub upto : group.claimed ≤ group.variables
  pub sizes : HasSizes group
  pub some : Any (λ values. value_of values group.claimed ≡ true) w.kept

abbrev pub SettleMore : DeskView → DeskView → AskerView → AskerView → WindowView → WindowView → GroupView → GroupView
    → Type 0
SettleMore old new a b w v group h = (g : Setting) (before : List CertRecord) → IsSettling g before a w group
    → Settles g before old new b v h

abbrev pub SettleStops : DeskView → DeskView → AskerView → WindowView → GroupView → WorkError → Type 0
SettleStops old new a w group error = (g : Setting) (before : List CertRecord) → IsSettling g before a w group
    → Stops g before old new error
