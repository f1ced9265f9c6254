-- How a checker begins behind a first line.
use Rattle.std.specs.Prelude.{◌≡◌, [], None, Result, Ok, Err, length}
use Rattle.dist_outside.specs.declared.limits.Limits.{Limits}
use Rattle.dist_outside.specs.declared.trouble.WorkError.TheVariants.{TooLarge, NoMemory}
use Rattle.dist_derive.specs.ClauseLog.{IsWithinLineLimits}
use Rattle.dist_repo.specs.PackageList.{PackageList}
use Rattle.dist_cert.specs.declared.faults.CertCause.TheVariants.{BadHeader}
use Rattle.dist_cert.specs.declared.faults.ReadCertError.{ReadCertError}
use Rattle.dist_cert.specs.declared.faults.ReadCertError.TheVariants.{Bad, Work}
use Rattle.dist_cert.specs.declared.records.Header.{Header}
use Rattle.dist_cert.specs.Refusal.{Fits}
use Rattle.dist_subject.specs.Basis.{Basis, IsBasisOf, matter_of}
use Rattle.dist_subject.specs.Limited.{AreInputsWithin, PassesFirst}
use Rattle.dist_line_check.specs.LinesAt.{AreFuturesBy}
use Rattle.dist_check.specs.LaysOut.{LaysOut}
use Rattle.dist_check.specs.declared.start.Started.{Started}
use Rattle.dist_check_group.specs.Group.{empty_group}
use Rattle.dist_line_check.specs.Checker.{CheckerView}
use Rattle.dist_check_state.specs.State.{StateView}

-- What is kept behind a first line with the right numbers, of which what it is judged by keeps the numbers.
pub record IsStart (r : PackageList) (limits : Limits) (h : Header) (c : CheckerView) (s : StateView) : Type 0 where
  pub basis : Basis
  pub is_basis : IsBasisOf r h.kind h.essential basis
  pub fits : Fits (matter_of r basis) h
  pub kept : AreInputsWithin limits r basis
  pub limit : c.limit ≡ h.limit
  pub packages : s.packages ≡ (matter_of r basis).packages
  pub clauses : c.log.clauses ≡ (matter_of r basis).inputs
  pub inputs : c.log.inputs ≡ length c.log.clauses
  pub variables : c.log.variables ≡ (matter_of r basis).variables
  pub kind : s.layout.kind ≡ h.kind
  pub layout : LaysOut (matter_of r basis) s.layout
  pub future : AreFuturesBy (matter_of r basis) c.future
  pub line_limit : c.log.line_limit ≡ limits.lines
  pub line_literal_limit : c.log.line_literal_limit ≡ limits.line_literals
  pub within : IsWithinLineLimits c.log
  pub window : s.window ≡ record { kept = []; count = 0; layout = s.layout }
  pub question : c.question ≡ None
  pub next : s.next ≡ 1
  pub group_is : s.group ≡ empty_group
  pub claims : s.claims ≡ []

-- What the line is judged by keeps the numbers, and a number of the line is wrong.
pub record IsUnfit (r : PackageList) (limits : Limits) (h : Header) : Type 0 where
  pub basis : Basis
  pub is_basis : IsBasisOf r h.kind h.essential basis
  pub within : AreInputsWithin limits r basis
  pub wrong : ¬ Fits (matter_of r basis) h

-- When each answer comes.
abbrev pub StartAnswers : PackageList → Limits → Header → Result Started ReadCertError → Type 0
StartAnswers r limits h (Ok started) = IsStart r limits h started.kept.checker started.kept.notes
StartAnswers r limits h (Err (Bad fault)) = (fault.line ≡ 1) × (fault.cause ≡ BadHeader) × IsUnfit r limits h
StartAnswers r limits h (Err (Work (TooLarge what))) = PassesFirst r h.kind h.essential limits what
StartAnswers r limits h (Err (Work NoMemory)) = Unit {0}
StartAnswers r limits h (Err error) = ⊥
