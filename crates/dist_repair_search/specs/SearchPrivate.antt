-- Serves private contracts: what is kept while the search asks.
use Rattle.std.specs.Prelude.{◌≡◌, ◌⊎◌, ℕ, ◌+◌, ◌<◌, ◌≤◌, List, [], ◌++◌, All, Result, Err}
use Rattle.dist_cert.specs.declared.records.CertRecord.{CertRecord}
use Rattle.dist_cert.specs.FileLines.{lines_text}
use Rattle.dist_findings.specs.AnswerFiles.{Inputs}
use Rattle.dist_findings.specs.Answers.{IsAnswered}
use Rattle.dist_findings.specs.Findings.{findings}
use Rattle.dist_findings.specs.SoundLaws.{IsSound}
use Rattle.dist_inquiry.specs.AnswerText.{IsRightBasis, setting_of}
use Rattle.dist_inquiry.specs.Asking.{IsAt}
use Rattle.dist_line_write.specs.Asking.{AskerView}
use Rattle.dist_line_write.specs.Script.{AreAsked, Script, Stops}
use Rattle.dist_inquiry.specs.Inquiring.{MayInquire, course_of}
use Rattle.dist_inquiry.specs.Written.{WrittenAnswers}
use Rattle.dist_outside.specs.DeskView.{DeskView, FileGrew}
use Rattle.dist_outside.specs.declared.limits.Limits.{Limits}
use Rattle.dist_outside.specs.declared.trouble.WorkError.{WorkError}
use Rattle.dist_outside.specs.declared.trouble.WorkError.TheVariants.{NoMemory}
use Rattle.dist_repair.specs.Answered.{Answers, Asked, AsksAt, IsLower}
use Rattle.dist_repair.specs.NotesPrivate.{AreNotesOf, AreWordsOf, NotesView, WordsView, answer_of}
use Rattle.dist_repair.specs.RepairFiles.{IsDecided, asked_by, repair_files}
use Rattle.dist_repair.specs.Searched.{IsBegun, IsBelowUpper}
use Rattle.dist_repair.specs.declared.repair.Repair.{Repair}
use Rattle.dist_space.specs.Space.{SpaceView}
use Rattle.dist_repair_search.specs.QuestionOrder.{WasNotAsked, repair_asks}

-- the variables of questions are different ones of so many
pub record AreOver (n : ℕ) (w : WordsView) : Type 0 where
  pub from_one : 1 ≤ w.own
  pub apart : w.own < w.first
  pub upto : w.first + w.most ≤ n

-- what a file is written for
abbrev pub setting_at : SpaceView → Limits → (numbers : List ℕ) → Inputs → Script
setting_at s limits numbers basis = setting_of (repair_files s) limits basis numbers

-- The numbers of a first line are right, and these are the variables of its questions.
pub record AreRight (s : SpaceView) (limits : Limits) (numbers : List ℕ) (basis : Inputs) (w : WordsView) : Type 0 where
  pub right : IsRightBasis (repair_files s) limits numbers basis
  pub words : AreWordsOf s (asked_by numbers) w

-- These lines are written, which ask what may be asked; what is kept and noted is what they hold and find, and what
-- they find is true.
pub record IsWrittenAt (s : SpaceView) (limits : Limits) (numbers : List ℕ) (basis : Inputs) (lines : List CertRecord)
    (a : AskerView) (n : NotesView) : Type 0 where
  pub at : IsAt (setting_at s limits numbers basis) lines a
  pub noted : AreNotesOf s (asked_by numbers) (findings lines) n
  pub asked : AreAsked (repair_asks s numbers) [] lines
  pub sound : All (IsSound basis.clauses 0) (findings lines)

-- no question at a number from j on was opened
abbrev pub AskedBelow : SpaceView → Asked → (j : ℕ) → List CertRecord → Type 0
AskedBelow s asked j lines = (i : ℕ) → j ≤ i → WasNotAsked (AsksAt s asked i) lines

-- The search has asked for the package alone, and then up to a number j: the answer is decided, or the questions at all
-- smaller numbers are refuted.
pub record StandsAt (s : SpaceView) (limits : Limits) (numbers : List ℕ) (basis : Inputs) (lines : List CertRecord)
    (j : ℕ) (a : AskerView) (n : NotesView) : Type 0 where
  pub written : IsWrittenAt s limits numbers basis lines a n
  pub begun : IsBegun s (asked_by numbers) (findings lines)
  pub below : AskedBelow s (asked_by numbers) j lines
  pub next : IsDecided s (asked_by numbers) (findings lines) ⊎ IsLower s (asked_by numbers) (findings lines) j

-- Lines more were written behind some, and the search stands at a number.
pub record ComesTo (s : SpaceView) (limits : Limits) (numbers : List ℕ) (basis : Inputs) (before : List CertRecord)
    (j : ℕ) (old new : DeskView) (b : AskerView) (n : NotesView) : Type 0 where
  pub more : List CertRecord
  pub grew : FileGrew (lines_text more) old new
  pub stands : StandsAt s limits numbers basis (before ++ more) j b n

-- ---- the question of the package alone

abbrev pub AloneMore : SpaceView → WordsView → NotesView → NotesView → DeskView → DeskView → AskerView → AskerView
    → Type 0
AloneMore s w n m old new a b = (limits : Limits) (numbers : List ℕ) (basis : Inputs)
    → AreRight s limits numbers basis w → IsWrittenAt s limits numbers basis [] a n
    → ComesTo s limits numbers basis [] 0 old new b m

abbrev pub AloneStops : SpaceView → WordsView → NotesView → DeskView → DeskView → AskerView → WorkError → Type 0
AloneStops s w n old new a error = (limits : Limits) (numbers : List ℕ) (basis : Inputs)
    → AreRight s limits numbers basis w → IsWrittenAt s limits numbers basis [] a n
    → Stops (setting_at s limits numbers basis) (repair_asks s numbers) [] old new error

-- ---- the question at a number, where the answer is not decided

abbrev pub NextMore : SpaceView → WordsView → (j : ℕ) → NotesView → NotesView → DeskView → DeskView → AskerView
    → AskerView → Type 0
NextMore s w j n m old new a b = (limits : Limits) (numbers : List ℕ) (basis : Inputs) (lines : List CertRecord)
    → AreRight s limits numbers basis w → StandsAt s limits numbers basis lines j a n
    → ¬ IsDecided s (asked_by numbers) (findings lines)
    → ComesTo s limits numbers basis lines (j + 1) old new b m

abbrev pub NextStops : SpaceView → WordsView → (j : ℕ) → NotesView → DeskView → DeskView → AskerView → WorkError
    → Type 0
NextStops s w j n old new a error = (limits : Limits) (numbers : List ℕ) (basis : Inputs) (lines : List CertRecord)
    → AreRight s limits numbers basis w → StandsAt s limits numbers basis lines j a n
    → ¬ IsDecided s (asked_by numbers) (findings lines)
    → Stops (setting_at s limits numbers basis) (repair_asks s numbers) lines old new error

-- ---- the question below the upper bound, where the answer is decided

-- The answer is decided, and no question at a number from one on and below another was opened.
pub record IsDecidedAt (s : SpaceView) (limits : Limits) (numbers : List ℕ) (basis : Inputs) (lines : List CertRecord)
    (from above : ℕ) (a : AskerView) (n : NotesView) : Type 0 where
  pub written : IsWrittenAt s limits numbers basis lines a n
  pub between : (i : ℕ) → from ≤ i → i < above → WasNotAsked (AsksAt s (asked_by numbers) i) lines
  pub decided : IsDecided s (asked_by numbers) (findings lines)

-- Lines more were written behind some, and there it is so.
pub record ComesDown (s : SpaceView) (limits : Limits) (numbers : List ℕ) (basis : Inputs) (before : List CertRecord)
    (from above : ℕ) (old new : DeskView) (b : AskerView) (n : NotesView) : Type 0 where
  pub more : List CertRecord
  pub grew : FileGrew (lines_text more) old new
  pub stands : IsDecidedAt s limits numbers basis (before ++ more) from above b n

-- A question at a number may be asked: it is below the upper bound, and among those that were not opened.
pub record MayLower (s : SpaceView) (limits : Limits) (numbers : List ℕ) (basis : Inputs) (lines : List CertRecord)
    (from above j : ℕ) (a : AskerView) (n : NotesView) : Type 0 where
  pub stands : IsDecidedAt s limits numbers basis lines from above a n
  pub from_on : from ≤ j
  pub less : j < above
  pub below : IsBelowUpper s (asked_by numbers) (findings lines) j

abbrev pub LowerMore : SpaceView → WordsView → (j : ℕ) → NotesView → NotesView → DeskView → DeskView → AskerView
    → AskerView → Type 0
LowerMore s w j n m old new a b = (limits : Limits) (numbers : List ℕ) (basis : Inputs) (lines : List CertRecord)
    (from above : ℕ) → AreRight s limits numbers basis w → MayLower s limits numbers basis lines from above j a n
    → ComesDown s limits numbers basis lines from j old new b m

abbrev pub LowerStops : SpaceView → WordsView → (j : ℕ) → NotesView → DeskView → DeskView → AskerView → WorkError
    → Type 0
LowerStops s w j n old new a error = (limits : Limits) (numbers : List ℕ) (basis : Inputs) (lines : List CertRecord)
    (from above : ℕ) → AreRight s limits numbers basis w → MayLower s limits numbers basis lines from above j a n
    → Stops (setting_at s limits numbers basis) (repair_asks s numbers) lines old new error

-- The answer is decided, and no question at a number from one on and below another was opened, since nothing was asked.
abbrev pub DownTo : SpaceView → WordsView → NotesView → DeskView → AskerView → (from above : ℕ) → NotesView → DeskView
    → AskerView → Type 0
DownTo s w n old a from above m new b = (limits : Limits) (numbers : List ℕ) (basis : Inputs)
    → AreRight s limits numbers basis w → IsWrittenAt s limits numbers basis [] a n
    → ComesDown s limits numbers basis [] from above old new b m

-- ---- all questions

-- The search ends behind lines that decide the answer.
pub record IsSearched (s : SpaceView) (limits : Limits) (numbers : List ℕ) (basis : Inputs) (old new : DeskView)
    (b : AskerView) (n : NotesView) : Type 0 where
  pub lines : List CertRecord
  pub grew : FileGrew (lines_text lines) old new
  pub written : IsWrittenAt s limits numbers basis lines b n
  pub decided : IsDecided s (asked_by numbers) (findings lines)

abbrev pub SearchMore : SpaceView → WordsView → NotesView → NotesView → DeskView → DeskView → AskerView → AskerView
    → Type 0
SearchMore s w n m old new a b = (limits : Limits) (numbers : List ℕ) (basis : Inputs)
    → AreRight s limits numbers basis w → IsWrittenAt s limits numbers basis [] a n
    → IsSearched s limits numbers basis old new b m

-- ---- the file

-- Where the search may begin, what it leaves of the file is as it is to be; at Ok it is accepted with the answer that
-- is noted then.
abbrev pub WritesFile : SpaceView → WordsView → (n m : NotesView) → (numbers : List ℕ) → AskerView → (name : List ℕ)
    → DeskView → DeskView → Result (Unit {0}) WorkError → Type 0
WritesFile s w n m numbers a name old new result = (limits : Limits) (basis : Inputs)
    → MayInquire (repair_files s) (λ ns. AreWordsOf s (asked_by ns) w × AreNotesOf s (asked_by ns) [] n) limits numbers
    basis a
    → WrittenAnswers (setting_at s limits numbers basis) (course_of (repair_files s) (repair_asks s) numbers)
    (λ done text. IsAnswered (repair_files s) limits text numbers
    (λ found. Answers s (asked_by numbers) found (answer_of m)))
    name old new result

-- or there was no memory, and nothing was done
abbrev pub RunsSearch : SpaceView → WordsView → (n m : NotesView) → (numbers : List ℕ) → AskerView → (name : List ℕ)
    → DeskView → DeskView → Result (Unit {0}) WorkError → Type 0
RunsSearch s w n m numbers a name old new result = ((result ≡ Err NoMemory) × (new ≡ old))
    ⊎ WritesFile s w n m numbers a name old new result

-- The same of the answer, whatever the search kept.
abbrev pub TellsAnswer : SpaceView → (numbers : List ℕ) → AskerView → (name : List ℕ) → DeskView → DeskView
    → Result Repair WorkError → Type 0
TellsAnswer s numbers a name old new result = ((result ≡ Err NoMemory) × (new ≡ old))
    ⊎ ((limits : Limits) (basis : Inputs)
    → ((w : WordsView) (n : NotesView) → AreWordsOf s (asked_by numbers) w → AreNotesOf s (asked_by numbers) [] n
    → MayInquire (repair_files s) (λ ns. AreWordsOf s (asked_by ns) w × AreNotesOf s (asked_by ns) [] n) limits numbers
    basis a)
    → WrittenAnswers (setting_at s limits numbers basis) (course_of (repair_files s) (repair_asks s) numbers)
    (λ repair text. IsAnswered (repair_files s) limits text numbers
    (λ found. Answers s (asked_by numbers) found repair))
    name old new result)
