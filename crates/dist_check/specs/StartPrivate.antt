-- Serves private contracts: what a checker begins with behind a first line, and why there is nothing of the kind.
use Rattle.std.specs.Prelude.{◌≡◌, ℕ, ◌≤◌, Bool, length}
use Rattle.dist_outside.specs.declared.limits.Limits.{Limits}
use Rattle.dist_outside.specs.declared.trouble.What.{What}
use Rattle.dist_clause.specs.ClauseList.{ClauseList}
use Rattle.dist_repo.specs.PackageList.{PackageList}
use Rattle.dist_cert.specs.declared.faults.ReadCertError.{ReadCertError}
use Rattle.dist_cert.specs.declared.faults.ReadCertError.TheVariants.{Work}
use Rattle.dist_cert.specs.declared.records.CertKind.{CertKind}
use Rattle.dist_cert.specs.declared.records.Header.{Header}
use Rattle.dist_subject.specs.Basis.{Basis, matter_of}
use Rattle.dist_judge.specs.Causes.{IsLarge}
use Rattle.dist_subject.specs.Inputs.{AreInputsOf}
use Rattle.dist_line_check.specs.LinesAt.{AreFuturesBy}
use Rattle.dist_check.specs.LaysOut.{LaysOut}
use Rattle.dist_check_group.specs.Layout.{LayoutView}
use Rattle.dist_line_check.specs.declared.future.FutureClauses.{FutureClauses}

-- The packages, clauses, layout and futures of what a kind and mode are judged by, which keeps the numbers.
pub record IsSubject (r : PackageList) (limits : Limits) (kind : CertKind) (essential : Bool) (packages : ℕ)
    (inputs : ClauseList) (layout : LayoutView) (future : FutureClauses) : Type 0 where
  pub basis : Basis
  pub are_inputs : AreInputsOf r kind essential limits basis inputs
  pub packages_are : packages ≡ (matter_of r basis).packages
  pub enough : packages ≤ inputs.variables
  pub kind_is : layout.kind ≡ kind
  pub layout_is : LaysOut (matter_of r basis) layout
  pub future_is : AreFuturesBy (matter_of r basis) future

-- the numbers of a first line are right
abbrev pub HasNumbers : ℕ → ClauseList → Header → Type 0
HasNumbers packages inputs h = (h.packages ≡ packages) × (h.variables ≡ inputs.variables)
    × (h.clauses ≡ length inputs.clauses)

-- a number is passed, or there is no memory
abbrev pub IsLargeFault : (What → Type 0) → ReadCertError → Type 0
IsLargeFault Passes (Work error) = IsLarge Passes error
IsLargeFault Passes error = ⊥
