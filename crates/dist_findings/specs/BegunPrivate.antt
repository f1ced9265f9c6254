-- Serves private contracts: what a checker begins with behind a first line.
use Rattle.std.specs.Prelude.{◌≡◌, ◌⊎◌, ℕ, List, None, length}
use Rattle.dist_outside.specs.declared.limits.Limits.{Limits}
use Rattle.dist_outside.specs.declared.trouble.WorkError.TheVariants.{NoMemory}
use Rattle.dist_derive.specs.ClauseLog.{IsWithinLineLimits}
use Rattle.dist_cert.specs.declared.faults.CertCause.TheVariants.{BadHeader}
use Rattle.dist_cert.specs.declared.faults.ReadCertError.{ReadCertError}
use Rattle.dist_cert.specs.declared.faults.ReadCertError.TheVariants.{Bad, Work}
use Rattle.dist_findings.specs.AnswerFiles.{AnswerFile, Inputs, HasHeading, HasNoHeading, limit_of}
use Rattle.dist_line_check.specs.Checker.{CheckerView}
use Rattle.dist_findings.specs.AnswerLines.{any_future}
use Rattle.dist_findings.specs.Start.{AreWrongNumbers, IsLargeInput}

-- what is kept behind a first line with the right numbers
pub record IsBegun (file : AnswerFile) (limits : Limits) (line numbers : List ℕ) (a : CheckerView) : Type 0 where
  pub heading : HasHeading file line numbers
  pub basis : Inputs
  pub is_basis : file.IsBasisOf numbers basis
  pub limited : file.IsWithin limits basis
  pub fits : file.Fits basis numbers
  pub variables : a.log.variables ≡ basis.variables
  pub clauses : a.log.clauses ≡ basis.clauses
  pub counted : a.log.inputs ≡ length a.log.clauses
  pub future : a.future ≡ any_future
  pub question : a.question ≡ None
  pub limit : a.limit ≡ limit_of numbers
  pub line_limit : a.log.line_limit ≡ limits.lines
  pub line_literal_limit : a.log.line_literal_limit ≡ limits.line_literals
  pub within : IsWithinLineLimits a.log

-- the line is no first line, or has a number that is not right
abbrev pub IsUnfit : AnswerFile → Limits → List ℕ → Type 0
IsUnfit file limits line = HasNoHeading file line
    ⊎ ((numbers : List ℕ) × HasHeading file line numbers × AreWrongNumbers file numbers limits)

-- why there is nothing of the kind
abbrev pub BeginFails : AnswerFile → Limits → List ℕ → ReadCertError → Type 0
BeginFails file limits line (Bad fault) = (fault.line ≡ 1) × (fault.cause ≡ BadHeader) × IsUnfit file limits line
BeginFails file limits line (Work NoMemory) = Unit {0}
BeginFails file limits line (Work error) = (told : List ℕ) × HasHeading file line told
    × IsLargeInput (file.PassesFirst told limits) error
