-- What is kept between claims, and what a claim writes.
use Rattle.std.specs.Prelude.{◌≡◌, ℕ, ◌+◌, ◌≤◌, List, [], ◌∷◌, ◌++◌}
use Rattle.dist_outside.specs.DeskView.{DeskView, FileGrew}
use Rattle.dist_outside.specs.declared.trouble.WorkError.{WorkError}
use Rattle.dist_cert.specs.declared.records.CertRecord.{CertRecord}
use Rattle.dist_cert.specs.declared.records.Claim.{Claim}
use Rattle.dist_cert.specs.Accepted.{claims_in}
use Rattle.dist_cert.specs.Groups.{claim_count, group}
use Rattle.dist_cert.specs.FileLines.{lines_text}
use Rattle.dist_line_write.specs.Asking.{AskerView}
use Rattle.dist_sweep.specs.Asking.{IsAt}
use Rattle.dist_sweep.specs.Script.{Setting, Stops, matter_in}
use Rattle.dist_sweep.specs.Window.{WindowView, IsWindowAt}

-- All that is kept is what these lines hold, and the last of them is a claim, if there is one.
pub record IsSwept (g : Setting) (before : List CertRecord) (a : AskerView) (w : WindowView) : Type 0 where
  pub at : IsAt g before a
  pub window : IsWindowAt before w
  pub no_group : group before ≡ []

-- The claim on package p may come next.
pub record MayClaim (g : Setting) (before : List CertRecord) (a : AskerView) (w : WindowView) (p : ℕ) : Type 0 where
  pub swept : IsSwept g before a w
  pub next : p ≡ claim_count before + 1
  pub upto : p ≤ (matter_in g).packages

-- One claim more was written, with the lines that it needs. What else is kept is of all lines.
pub record IsClaimed (g : Setting) (before : List CertRecord) (old new : DeskView) (a : AskerView) (w : WindowView)
    (Kept : List CertRecord → Type 0) (claim : Claim) : Type 0 where
  pub added : List CertRecord
  pub grew : FileGrew (lines_text added) old new
  pub swept : IsSwept g (before ++ added) a w
  pub kept : Kept (before ++ added)
  pub counted : claim_count (before ++ added) ≡ claim_count before + 1
  pub claims : claims_in (before ++ added) ≡ claims_in before ++ claim ∷ []

-- what is kept by one who makes claims, besides questions and installations, is what the lines hold
abbrev pub Keeping : Type 0 → Type 1
Keeping C = Setting → List CertRecord → C → Type 0

-- Where the claim on package p may come next, it was written, with the lines that it needs.
abbrev pub ClaimMore : {C : Type 0} → Keeping C → ℕ → DeskView → DeskView → AskerView → AskerView → WindowView
    → WindowView → C → C → Claim → Type 0
ClaimMore Keeps p old new a b w v c d claim = (g : Setting) (before : List CertRecord) → MayClaim g before a w p
    → Keeps g before c → IsClaimed g before old new b v (λ lines. Keeps g lines d) claim

-- or the writing stops there
abbrev pub ClaimStops : {C : Type 0} → Keeping C → ℕ → DeskView → DeskView → AskerView → WindowView → C → WorkError
    → Type 0
ClaimStops Keeps p old new a w c error = (g : Setting) (before : List CertRecord) → MayClaim g before a w p
    → Keeps g before c → Stops g before old new error

-- What the calls of a sweep are given, apart from the lines.
pub record Suits (a : AskerView) (w : WindowView) (p : ℕ) : Type 0 where
  pub limit : 1 ≤ a.limit
  pub variables : a.log.variables ≡ w.variables
  pub from_one : 1 ≤ p
