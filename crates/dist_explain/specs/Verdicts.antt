-- What is answered of a file, and what an accepted one proves.
use Rattle.std.specs.Prelude.{◌≡◌, ℕ, ◌+◌, ◌-◌, ◌<◌, ◌≤◌, ◌^◌, false, List, [], ◌++◌, All, Result, Ok, Err, length}
use Rattle.dist_base.specs.declared.TheConstants.{MAX_LIMIT}
use Rattle.dist_outside.specs.declared.limits.Limits.{Limits}
use Rattle.dist_outside.specs.declared.trouble.WorkError.{WorkError}
use Rattle.dist_outside.specs.declared.trouble.What.TheVariants.{Variables, Clauses, Literals}
use Rattle.dist_outside.specs.declared.trouble.WorkError.TheVariants.{TooLarge}
use Rattle.dist_cert.specs.declared.faults.ReadCertError.TheVariants.{Bad, Work}
use Rattle.dist_cert.specs.Rising.{AreRising}
use Rattle.dist_cert.specs.declared.records.CertRecord.{CertRecord}
use Rattle.dist_judge.specs.Judging.{IsAccepted, IsRefused, StopsWith}
use Rattle.dist_repo.specs.PackageList.{PackageList, IsPackageAnd}
use Rattle.dist_repo.specs.Strong.{IsInstallable}
use Rattle.dist_repo.specs.declared.package.Package.{Package}
use Rattle.dist_now.specs.PresentClauses.{Demand}
use Rattle.dist_now.specs.Relations.{AreRelations}
use Rattle.dist_explain.specs.Answered.{Answers}
use Rattle.dist_explain.specs.Explanation.{AreConnected, Explain, IsNeeded}
use Rattle.dist_explain.specs.ExplanationFiles.{PassesFirst, asked_by, explanation_files}
use Rattle.dist_explain.specs.declared.explained.Explained.{Explained}
use Rattle.dist_explain.specs.declared.explained.Explained.TheVariants.{Installable, Undecided, Broken}
use Rattle.dist_explain.specs.declared.verdict.ExplainHeader.{ExplainHeader}
use Rattle.dist_explain.specs.declared.verdict.ExplainVerdict.{ExplainVerdict}
use Rattle.dist_explain.specs.declared.verdict.ExplainVerdict.TheVariants.{Accepted, Refused}
use Rattle.dist_findings.specs.AnswerFiles.{files_of, number_at}
use Rattle.dist_findings.specs.Answers.{IsAnswered}
use Rattle.dist_findings.specs.Findings.{findings}

-- ---- of a text

-- the header of a first line with these numbers; its package is numbered from 0
abbrev pub header_by : List ℕ → ExplainHeader
header_by numbers = record { limit = number_at 0 numbers; «package» = number_at 3 numbers - 1 }

-- The text is accepted with this header and this answer: its lines have no fault and keep the limits, and the answer is
-- what they find.
abbrev pub IsExplanation : PackageList → Limits → List ℕ → ExplainHeader → Explained → Type 0
IsExplanation r limits text h explained = (numbers : List ℕ) × (h ≡ header_by numbers)
    × IsAnswered (explanation_files r) limits text numbers (λ found. Answers (asked_by numbers) found explained)

-- Of a text, whatever numbers it passes: its lines have no fault, and the answer is what they find; or it has a first
-- fault.
abbrev pub IsExplainVerdict : PackageList → Limits → List ℕ → ExplainVerdict → Type 0
IsExplainVerdict r limits text (Accepted h explained) = (numbers : List ℕ) × (h ≡ header_by numbers) × (steps : List
    CertRecord)
    × IsAccepted (files_of (explanation_files r)) limits text numbers steps × Answers (asked_by numbers) (findings
    steps) explained
IsExplainVerdict r limits text (Refused fault) = IsRefused (files_of (explanation_files r)) limits text fault

-- When each answer is given. A fault of the desk and want of memory may come in place of any.
abbrev pub ExplanationAnswers : PackageList → Limits → List ℕ → Result ExplainVerdict WorkError → Type 0
ExplanationAnswers r limits text (Ok (Accepted h explained)) = IsExplanation r limits text h explained
ExplanationAnswers r limits text (Ok (Refused fault)) =
    StopsWith (files_of (explanation_files r)) limits text (Bad fault)
ExplanationAnswers r limits text (Err error) = StopsWith (files_of (explanation_files r)) limits text (Work error)

-- Whatever the desk tells, too many variables, input clauses or literals are told only of a repository for which what
-- files are judged by passes that number.
abbrev pub LargeCause : PackageList → Limits → WorkError → Type 0
LargeCause r limits (TooLarge Variables) = PassesFirst r limits Variables
LargeCause r limits (TooLarge Clauses) = PassesFirst r limits Clauses
LargeCause r limits (TooLarge Literals) = PassesFirst r limits Literals
LargeCause r limits error = Unit {0}

-- ---- what is true

-- Together the relations explain the package, each of the first list is needed, and they hang together.
pub record IsBroken (r : PackageList) (p : Package) (needed undecided : List ℕ) (relations : List Demand) : Type 0 where
  pub explain : Explain r relations p (needed ++ undecided)
  pub needed_are : All (IsNeeded r relations p (needed ++ undecided)) needed
  pub connected : AreConnected r relations p needed (needed ++ undecided)
  pub in_range : All (λ number. (1 ≤ number) × (number ≤ length relations)) (needed ++ undecided)
  pub needed_rise : AreRising needed
  pub undecided_rise : AreRising undecided

-- What is answered of the package is true, of the relations of the repository.
abbrev pub IsTrueOf : PackageList → List Demand → Package → Explained → Type 0
IsTrueOf r relations p Installable = IsInstallable false r p
IsTrueOf r relations p Undecided = Unit {0}
IsTrueOf r relations p (Broken needed undecided) = IsBroken r p needed undecided relations

-- nothing is left undecided
abbrev pub HasNoMark : Explained → Type 0
HasNoMark Installable = Unit {0}
HasNoMark Undecided = ⊥
HasNoMark (Broken needed undecided) = undecided ≡ []

-- The package is one of the repository, what is answered of it is true, and with a limit that no question reaches
-- nothing is left undecided.
pub record AcceptedMeans (r : PackageList) (h : ExplainHeader) (explained : Explained) : Type 0 where
  pub limit_from : 1 ≤ h.limit
  pub limit_upto : h.limit ≤ MAX_LIMIT
  pub means : IsPackageAnd r.packages h.«package» (λ p. (relations : List Demand) → AreRelations r relations
      → IsTrueOf r relations p explained)
  pub decided : (relations : List Demand) → AreRelations r relations
      → 3 ^ (length r.packages + length relations) < h.limit → HasNoMark explained

-- what a verdict says whatever the desk tells
abbrev pub VerdictMeans : PackageList → ExplainVerdict → Type 0
VerdictMeans r (Accepted h explained) = AcceptedMeans r h explained
VerdictMeans r (Refused fault) = Unit {0}
