-- A search whose questions decide the answer of a file, and the file that it writes.
use Rattle.std.specs.Prelude.{◌≡◌, ℕ, List, [], Result}
use Rattle.dist_outside.specs.DeskView.{DeskView, FileGrew}
use Rattle.dist_outside.specs.declared.limits.Limits.{Limits}
use Rattle.dist_outside.specs.declared.trouble.WorkError.{WorkError}
use Rattle.dist_cert.specs.declared.records.CertRecord.{CertRecord}
use Rattle.dist_cert.specs.FileLines.{lines_text}
use Rattle.dist_findings.specs.AnswerFiles.{AnswerFile, Inputs}
use Rattle.dist_findings.specs.Answers.{IsAnswered}
use Rattle.dist_findings.specs.Findings.{findings}
use Rattle.dist_findings.specs.Unclaimed.{clauses_alone}
use Rattle.dist_findings.specs.declared.finding.Finding.{Finding}
use Rattle.dist_subject.specs.Installed.{ModelsStand}
use Rattle.dist_inquiry.specs.Asking.{IsAt}
use Rattle.dist_line_write.specs.Asking.{AskerView, IsLogAt}
use Rattle.dist_line_write.specs.Script.{new_writer, AreAsked, Asks, Script, Stops}
use Rattle.dist_inquiry.specs.AnswerText.{IsRightBasis, setting_of}
use Rattle.dist_inquiry.specs.Written.{Course, IsStopped, IsWholeText, WrittenAnswers}

-- the findings of these lines decide the answer
abbrev pub decided_by : AnswerFile → (numbers : List ℕ) → List CertRecord → Type 0
decided_by file numbers lines = file.IsDecided numbers (findings lines)

-- what the lines of a file with these numbers go by
abbrev pub course_of : AnswerFile → (asks : List ℕ → Asks) → (numbers : List ℕ) → Course
course_of file asks numbers = record { asks = asks numbers; Decided = decided_by file numbers }

-- The search may begin behind a first line with the right numbers: nothing is asked yet.
pub record MaySettle (file : AnswerFile) (Keeps : List ℕ → Type 0) (limits : Limits) (numbers : List ℕ)
    (basis : Inputs) (a : AskerView) : Type 0 where
  pub right : IsRightBasis file limits numbers basis
  pub at : IsAt (setting_of file limits basis numbers) [] a
  pub keeps : Keeps numbers

-- Lines were written behind the first one that ask what may be asked, and what they find decides the answer, which it
-- tells.
pub record IsSettled (file : AnswerFile) (asks : List ℕ → Asks) (Told : List ℕ → List Finding → Type 0) (g : Script)
    (numbers : List ℕ) (old new : DeskView) (b : AskerView) : Type 0 where
  pub lines : List CertRecord
  pub grew : FileGrew (lines_text lines) old new
  pub at : IsAt g lines b
  pub asked : AreAsked (asks numbers) [] lines
  pub decided : file.IsDecided numbers (findings lines)
  pub told : Told numbers (findings lines)

-- where the search may begin, it comes to an answer
abbrev pub SettleMore : AnswerFile → (Keeps : List ℕ → Type 0) → (asks : List ℕ → Asks)
    → (Told : List ℕ → List Finding → Type 0) → DeskView → DeskView → AskerView → AskerView → Type 0
SettleMore file Keeps asks Told old new a b = (limits : Limits) (numbers : List ℕ) (basis : Inputs)
    → MaySettle file Keeps limits numbers basis a
    → IsSettled file asks Told (setting_of file limits basis numbers) numbers old new b

-- or the writing stops
abbrev pub SettleStops : AnswerFile → (Keeps : List ℕ → Type 0) → (asks : List ℕ → Asks) → DeskView → DeskView
    → AskerView → WorkError → Type 0
SettleStops file Keeps asks old new a error = (limits : Limits) (numbers : List ℕ) (basis : Inputs)
    → MaySettle file Keeps limits numbers basis a
    → Stops (setting_of file limits basis numbers) (asks numbers) [] old new error

-- Nothing was written or asked, and what is kept fits the first line and the limits.
pub record MayInquire (file : AnswerFile) (Keeps : List ℕ → Type 0) (limits : Limits) (numbers : List ℕ)
    (basis : Inputs) (a : AskerView) : Type 0 where
  pub right : IsRightBasis file limits numbers basis
  pub log : IsLogAt (setting_of file limits basis numbers) [] a.log a.limit
  pub stand : ModelsStand (clauses_alone basis.variables basis.clauses)
  pub writer : a.writer ≡ new_writer limits
  pub keeps : Keeps numbers

-- Where nothing was written, all lines were, from the first to the end.
pub record IsInquired (file : AnswerFile) (asks : List ℕ → Asks) (Told : List ℕ → List Finding → Type 0)
    (limits : Limits) (numbers : List ℕ) (basis : Inputs) (old new : DeskView) : Type 0 where
  pub text : List ℕ
  pub grew : FileGrew text old new
  pub answered : IsAnswered file limits text numbers (Told numbers)
  pub whole : IsWholeText (setting_of file limits basis numbers) (course_of file asks numbers) text

-- where the search may begin and nothing was written, the whole text was
abbrev pub InquiryMore : AnswerFile → (Keeps : List ℕ → Type 0) → (asks : List ℕ → Asks)
    → (Told : List ℕ → List Finding → Type 0) → (numbers : List ℕ) → DeskView → DeskView → AskerView → Type 0
InquiryMore file Keeps asks Told numbers old new a = (limits : Limits) (basis : Inputs)
    → MayInquire file Keeps limits numbers basis a → IsInquired file asks Told limits numbers basis old new

-- or the writing stops
abbrev pub InquiryStops : AnswerFile → (Keeps : List ℕ → Type 0) → (asks : List ℕ → Asks) → (numbers : List ℕ)
    → DeskView → DeskView → AskerView → WorkError → Type 0
InquiryStops file Keeps asks numbers old new a error = (limits : Limits) (basis : Inputs)
    → MayInquire file Keeps limits numbers basis a
    → IsStopped (setting_of file limits basis numbers) (course_of file asks numbers) old new error

-- Where the search may begin, the answer is as it is to be, and so is what it leaves of the file: at Ok it is whole and
-- accepted, with an answer that the search tells. Whatever is written of it asks what the search may ask.
abbrev pub InquiryAnswers : AnswerFile → (Keeps : List ℕ → Type 0) → (asks : List ℕ → Asks)
    → (Told : List ℕ → List Finding → Type 0) → (numbers : List ℕ) → AskerView → (name : List ℕ) → DeskView → DeskView
    → Result (Unit {0}) WorkError → Type 0
InquiryAnswers file Keeps asks Told numbers a name old new result = (limits : Limits) (basis : Inputs)
    → MayInquire file Keeps limits numbers basis a
    → WrittenAnswers (setting_of file limits basis numbers) (course_of file asks numbers)
    (λ done text. IsAnswered file limits text numbers (Told numbers)) name old new result
