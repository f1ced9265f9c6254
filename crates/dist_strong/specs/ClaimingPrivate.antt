-- What the claim on strong dependencies is made of, and what it writes.
use Rattle.std.specs.Prelude.{◌≡◌, ℕ, ◌≤◌, List}
use Rattle.dist_outside.specs.DeskView.{DeskView}
use Rattle.dist_outside.specs.declared.trouble.WorkError.{WorkError}
use Rattle.dist_cert.specs.declared.records.CertRecord.{CertRecord}
use Rattle.dist_cert.specs.declared.records.CertRecord.TheVariants.{Strong}
use Rattle.dist_cert.specs.declared.records.Claim.{Claim}
use Rattle.dist_strong.specs.Group.{AreLeft, GroupView}
use Rattle.dist_strong.specs.SettlingPrivate.{IsOfStrong, IsSettling}
use Rattle.dist_line_write.specs.Asking.{AskerView}
use Rattle.dist_line_write.specs.Words.{true_variables}
use Rattle.dist_sweep.specs.Script.{Setting, Stops}
use Rattle.dist_sweep.specs.Claiming.{IsClaimed, MayClaim}
use Rattle.dist_sweep.specs.Window.{WindowView, numbers_of}

-- what the calls of a claim are given, apart from the lines
pub record StrongSuits (a : AskerView) (w : WindowView) (p : ℕ) : Type 0 where
  pub limit : 1 ≤ a.limit
  pub variables : a.log.variables ≡ w.variables
  pub from_one : 1 ≤ p
  pub upto : p ≤ w.variables

-- one claim more was written, with the lines that it needs
abbrev pub StrongClaims : ℕ → DeskView → DeskView → AskerView → AskerView → WindowView → WindowView → Claim → Type 0
StrongClaims p old new a b w v claim = (g : Setting) (before : List CertRecord) → MayClaim g before a w p
    → IsOfStrong g → IsClaimed g before old new b v (λ lines. IsOfStrong g) claim

abbrev pub StrongStops : ℕ → DeskView → DeskView → AskerView → WindowView → WorkError → Type 0
StrongStops p old new a w error = (g : Setting) (before : List CertRecord) → MayClaim g before a w p → IsOfStrong g
    → Stops g before old new error

-- the line of a claim of what is kept of its group
pub record IsStrongLine (w : WindowView) (group : GroupView) (step : CertRecord) : Type 0 where
  pub left : List ℕ
  pub are_left : AreLeft w group left
  pub is : step ≡ Strong group.claimed (numbers_of w group.claimed) (true_variables group.refuted) left

-- the claim on strong dependencies was written behind the lines of its group, and those that it still needed
abbrev pub StrongMore : DeskView → DeskView → AskerView → AskerView → WindowView → WindowView → GroupView → Claim
    → Type 0
StrongMore old new a b w v kept claim = (g : Setting) (before : List CertRecord) → IsSettling g before a w kept
    → IsClaimed g before old new b v (λ lines. IsOfStrong g) claim
