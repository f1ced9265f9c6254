-- The file of one question that is written: of which kind it is, what its lines find, and when it is a whole one.
use Rattle.std.specs.Prelude.{◌≡◌, ℕ, List, [], ◌∷◌, ◌++◌}
use Rattle.dist_outside.specs.DeskView.{DeskView}
use Rattle.dist_outside.specs.declared.limits.Limits.{Limits}
use Rattle.dist_solver.specs.declared.answers.Answer.{Answer}
use Rattle.dist_solver.specs.declared.answers.Answer.TheVariants as answers
use Rattle.dist_cert.specs.declared.records.CertRecord.{CertRecord}
use Rattle.dist_cert.specs.declared.records.CertRecord.TheVariants.{End}
use Rattle.dist_cert.specs.FirstLines.{first_line}
use Rattle.dist_cert.specs.FileLines.{file_text}
use Rattle.dist_cert.specs.Form.{Word}
use Rattle.dist_findings.specs.AnswerFiles.{AnswerFile, HasHeading, Inputs, limit_of}
use Rattle.dist_findings.specs.Findings.{findings}
use Rattle.dist_findings.specs.declared.finding.Finding.{Finding}
use Rattle.dist_findings.specs.declared.finding.Finding.TheVariants as finding
use Rattle.dist_inquiry.specs.Asking.{IsAsked, IsAt}
use Rattle.dist_line_write.specs.Asking.{AskerView, question_lines}
use Rattle.dist_line_write.specs.Script.{Script}
use Rattle.dist_line_write.specs.Words.{closing_line, true_variables}

-- what a question finds
abbrev pub finding_of : List Word → Answer → Finding
finding_of question (answers.Found values) = finding.Installed (true_variables values)
finding_of question (answers.Refuted hints) = finding.Refuted question
finding_of question answers.Undecided = finding.LeftUndecided question

-- what a file with a first line of these numbers is written for
abbrev pub setting_of : AnswerFile → Limits → Inputs → (numbers : List ℕ) → Script
setting_of file limits basis numbers = record {
  first = first_line file.front numbers;
  limit = limit_of numbers;
  variables = basis.variables;
  inputs = basis.clauses;
  limits = limits;
}

-- The numbers are those of a first line, and right by what the lines are judged by, which keeps the limits.
pub record IsRightBasis (file : AnswerFile) (limits : Limits) (numbers : List ℕ) (basis : Inputs) : Type 0 where
  pub heading : HasHeading file (first_line file.front numbers) numbers
  pub is_basis : file.IsBasisOf numbers basis
  pub within : file.IsWithin limits basis
  pub fits : file.Fits basis numbers

-- the text of lines with the end behind them
abbrev pub whole_text : Script → List CertRecord → List ℕ
whole_text g lines = file_text g.first (lines ++ End ∷ [])

-- What is kept of some findings, behind a first line of these numbers.
abbrev pub Noting : Type 0 → Type 1
Noting N = (numbers : List ℕ) → List Finding → N → Type 0

-- What is kept is what these lines hold, and what is noted is what they find.
pub record IsNotedAt {N : Type 0} (Noted : Noting N) (g : Script) (numbers : List ℕ) (before : List CertRecord)
    (a : AskerView) (notes : N) : Type 0 where
  pub at : IsAt g before a
  pub noted : Noted numbers (findings before) notes

-- The question was asked, its lines were written, and what it finds was noted.
pub record IsAskedAndNoted {N : Type 0} (Noted : Noting N) (g : Script) (numbers : List ℕ) (before : List CertRecord)
    (question : List Word) (old new : DeskView) (b : AskerView) (notes : N) (answer : Answer) : Type 0 where
  pub asked : IsAsked g before question old new b answer
  pub finds : findings (before ++ question_lines question asked.between (closing_line answer))
      ≡ findings before ++ finding_of question answer ∷ []
  pub noted : Noted numbers (findings before ++ finding_of question answer ∷ []) notes

-- where what is kept is noted, the question was asked and noted
abbrev pub NoteMore : {N : Type 0} → Noting N → DeskView → DeskView → AskerView → AskerView → N → N → List Word
    → Answer → Type 0
NoteMore Noted old new a b notes after question answer = (g : Script) (numbers : List ℕ) (before : List CertRecord)
    → IsNotedAt Noted g numbers before a notes
    → IsAskedAndNoted Noted g numbers before question old new b after answer
