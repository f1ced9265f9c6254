-- What `check-explain PACKAGES CERT` comes to.
use Rattle.std.specs.Prelude.{◌≡◌, ◌==◌, ℕ, Bool, true, false, not, List, Option, Result, Ok, Err, length}
use Rattle.dist_outside.specs.Files.{Files}
use Rattle.dist_outside.specs.declared.limits.Limits.{Limits}
use Rattle.dist_repo.specs.PackageList.{PackageList}
use Rattle.dist_cert.specs.declared.faults.ReadCertError.{ReadCertError}
use Rattle.dist_judge.specs.Judging.{StopsWith}
use Rattle.dist_findings.specs.AnswerFiles.{files_of}
use Rattle.dist_explain.specs.ExplanationFiles.{explanation_files}
use Rattle.dist_explain.specs.Verdicts.{AcceptedMeans, IsExplanation}
use Rattle.dist_explain.specs.declared.explained.Explained.{Explained}
use Rattle.dist_explain.specs.declared.explained.Explained.TheVariants.{Installable, Undecided, Broken}
use Rattle.dist_explain.specs.declared.verdict.ExplainHeader.{ExplainHeader}
use Rattle.dist_report.specs.ExplainedText.{IsExplainedText}
use Rattle.dist_commands.specs.CheckedFile.{CheckStage}
use Rattle.dist_commands.specs.Claims.{marked_status}
use Rattle.dist_commands.specs.PackagesStage.{PackagesStage}
use Rattle.dist_commands.specs.Stages.{Ending, Step, Then, answered}
use Rattle.dist_commands.specs.declared.status.Status.{Status}

-- when each answer is given of the text of an explanation's file: an accepted one says its header, and what is answered
abbrev pub ExplanationReads : PackageList → Limits → (text : List ℕ)
    → Result (ExplainHeader × Explained) ReadCertError → Type 0
ExplanationReads r limits text (Ok accepted) = IsExplanation r limits text accepted.0 accepted.1
ExplanationReads r limits text (Err error) = StopsWith (files_of (explanation_files r)) limits text error

-- the header and the answer of CERT where it is accepted, or its first fault, or the number that it passes
abbrev pub ExplanationStage : Option Files → Limits → (cert : List ℕ) → PackageList
    → Step (ExplainHeader × Explained) → Type 0
ExplanationStage files limits cert r step = CheckStage (ExplanationReads r limits) files cert step

-- the answer leaves something undecided: all of it, or of some relations whether they are needed
abbrev pub leaves_undecided : Explained → Bool
leaves_undecided Installable = false
leaves_undecided Undecided = true
leaves_undecided (Broken needed undecided) = not (length undecided == 0)

-- the status that goes with an answer
abbrev pub explained_status : Explained → Status
explained_status explained = marked_status (leaves_undecided explained)

-- what is answered of the package is true, and is told
pub record TellsExplained (files : Option Files) (r : PackageList) (accepted : ExplainHeader × Explained)
    (ending : Ending) : Type 0 where
  pub means : AcceptedMeans r accepted.0 accepted.1
  pub text : List ℕ
  pub is_text : IsExplainedText r accepted.0.«package» accepted.1 text
  pub is : ending ≡ answered files (explained_status accepted.1) text

-- PACKAGES is read and taken apart first, then CERT is judged. The first stage that is refused decides.
abbrev pub CheckExplainStages : Option Files → Limits → (packages cert : List ℕ)
    → (PackageList → (ExplainHeader × Explained) → Ending → Type 0) → Ending → Type 0
CheckExplainStages files limits packages cert Last =
    Then (PackagesStage files limits packages) (λ r.
    Then (ExplanationStage files limits cert r) (Last r))
