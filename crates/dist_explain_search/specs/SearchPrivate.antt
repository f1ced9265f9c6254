-- Serves private contracts: where the search stands, and what a question more comes to.
use Rattle.std.specs.Prelude.{◌≡◌, ◌==◌, ◌⊎◌, ℕ, ◌+◌, ◌≤◌, List, [], ◌∷◌, ◌++◌, All, Any, Contains, filter}
use Rattle.std.specs.Prelude.{length, map, not, Result, Err}
use Rattle.dist_outside.specs.DeskView.{DeskView, FileGrew}
use Rattle.dist_outside.specs.declared.trouble.WorkError.{WorkError}
use Rattle.dist_cert.specs.ClaimRules.{yes}
use Rattle.dist_cert.specs.FileLines.{lines_text}
use Rattle.dist_cert.specs.Form.{Word}
use Rattle.dist_cert.specs.Rising.{AreRising}
use Rattle.dist_cert.specs.declared.records.CertRecord.{CertRecord}
use Rattle.dist_cert.specs.declared.records.CertRecord.TheVariants.{Question, Refuted}
use Rattle.dist_explain.specs.Answered.{AreAllBut, AreAnswered, AreLast, IsOfRelation, Selects, Answers}
use Rattle.dist_explain.specs.ExplanationFiles.{asked_by, explanation_files}
use Rattle.dist_explain.specs.NotesPrivate.{AreNotesOf, IsMarkedIn, NotesView}
use Rattle.dist_explain.specs.declared.asked.Asked.{Asked}
use Rattle.dist_findings.specs.Findings.{findings}
use Rattle.dist_findings.specs.declared.finding.Finding.{Finding}
use Rattle.dist_solver.specs.declared.answers.Answer.TheVariants as answers
use Rattle.dist_inquiry.specs.Asking.{IsAt}
use Rattle.dist_line_write.specs.Asking.{AskerView, Says}
use Rattle.dist_line_write.specs.Script.{AreAsked, Script, Stops}
use Rattle.dist_inquiry.specs.AnswerText.{Noting, setting_of}
use Rattle.dist_explain_search.specs.ExplainOrder.{IsNextQuestion}
use Rattle.dist_explain.specs.declared.explained.Explained.{Explained}
use Rattle.dist_findings.specs.AnswerFiles.{Inputs}
use Rattle.dist_findings.specs.Answers.{IsAnswered}
use Rattle.dist_inquiry.specs.Inquiring.{MayInquire, course_of}
use Rattle.dist_inquiry.specs.Written.{WrittenAnswers}
use Rattle.dist_outside.specs.declared.limits.Limits.{Limits}
use Rattle.dist_outside.specs.declared.trouble.WorkError.TheVariants.{NoMemory}
use Rattle.dist_repo.specs.PackageList.{PackageList}

-- ---- questions

-- the question of the package and these relations
abbrev pub question_of : Asked → (numbers : List ℕ) → List Word
question_of asked numbers = yes asked.number ∷ map (λ number. yes (asked.packages + number)) numbers

-- numbers of relations, which rise
pub record AreNumbers (asked : Asked) (numbers : List ℕ) : Type 0 where
  pub rising : AreRising numbers
  pub in_range : All (IsOfRelation asked) numbers

-- all of them but one
abbrev pub others_of : List ℕ → ℕ → List ℕ
others_of numbers one = filter (λ number. not (number == one)) numbers

-- numbers of relations that are some of these
pub record IsSmaller (asked : Asked) (numbers fewer : List ℕ) : Type 0 where
  pub are : AreNumbers asked fewer
  pub within : All (Contains numbers) fewer
  pub few : length fewer ≤ length numbers

-- So many variables are those of the packages and the relations, and the package is one of them.
pub record FitsAsked (asked : Asked) (variables : ℕ) : Type 0 where
  pub all : asked.packages + asked.relations ≡ variables
  pub from_one : 1 ≤ asked.number
  pub upto : asked.number ≤ asked.packages

-- the notes of what is found
abbrev pub explain_noting : Noting NotesView
explain_noting = λ numbers found notes. AreNotesOf (asked_by numbers) found notes

-- ---- where the search stands

-- What is kept is what these lines hold, and what they find is noted.
pub record IsSearching (g : Script) (asked : Asked) (lines : List CertRecord) (a : AskerView) (notes : NotesView)
    : Type 0 where
  pub at : IsAt g lines a
  pub noted : AreNotesOf asked (findings lines) notes

-- The question of the core is the last that is refuted, and no model has the core. Of the core, these have their marks.
-- Each question so far that is on relations of the core alone is on all of it, or on all but one of those with marks.
pub record IsAtCore (g : Script) (asked : Asked) (lines : List CertRecord) (core : List ℕ) (later : List Finding)
    (marked : List ℕ) : Type 0 where
  pub are_last : AreLast asked (findings lines) core later
  pub refuted : Says g (question_of asked core) (answers.Refuted [])
  pub have_marks : All (IsMarkedIn asked core later) marked
  pub so_far : (question : List Word) (numbers : List ℕ) → Contains lines (Question question)
      → Selects asked question numbers → All (Contains core) numbers
      → All (Contains numbers) core ⊎ Any (λ one. AreAllBut core one numbers) marked

-- the core of which these have their marks
abbrev pub Marks : Asked → (core marked : List ℕ) → Script → List CertRecord → Type 0
Marks asked core marked g lines = (later : List Finding) × IsAtCore g asked lines core later marked

-- the core, right behind the line that refutes it
abbrev pub HasJust : Asked → (core : List ℕ) → Script → List CertRecord → Type 0
HasJust asked core g lines = (earlier : List CertRecord) × (hints : List ℕ) × (lines ≡ earlier ++ Refuted hints ∷ [])
    × IsAtCore g asked lines core [] []

-- what the lines find has an answer
abbrev pub IsAnsweredAt : Asked → Script → List CertRecord → Type 0
IsAnsweredAt asked g lines = AreAnswered asked (findings lines)

-- ---- what is written behind some lines

-- Lines were written whose questions come in their order, and then this holds.
pub record IsFurther (g : Script) (asked : Asked) (To : Script → List CertRecord → Type 0) (lines : List CertRecord)
    (old new : DeskView) (b : AskerView) (after : NotesView) : Type 0 where
  pub added : List CertRecord
  pub grew : FileGrew (lines_text added) old new
  pub in_order : AreAsked (IsNextQuestion asked) lines added
  pub searching : IsSearching g asked (lines ++ added) b after
  pub holds : To g (lines ++ added)

-- from where one thing holds, the search goes to where another does
abbrev pub Goes : Asked → (From To : Script → List CertRecord → Type 0) → DeskView → DeskView → AskerView → AskerView
    → NotesView → NotesView → Type 0
Goes asked From To old new a b notes after = (g : Script) (lines : List CertRecord)
    → IsSearching g asked lines a notes → From g lines → IsFurther g asked To lines old new b after

-- or the writing stops
abbrev pub GoesNot : Asked → (From : Script → List CertRecord → Type 0) → DeskView → DeskView → AskerView → NotesView
    → WorkError → Type 0
GoesNot asked From old new a notes error = (g : Script) (lines : List CertRecord)
    → IsSearching g asked lines a notes → From g lines → Stops g (IsNextQuestion asked) lines old new error

-- ---- the file

-- what an answer tells of notes: what the findings answer of which they are
abbrev pub TellsOf : NotesView → Explained → Type 0
TellsOf notes explained = (asked : Asked) (found : List Finding) → AreNotesOf asked found notes
    → (¬ ¬ AreAnswered asked found) → Answers asked found explained

-- the search may begin behind a first line of these numbers, with these notes
abbrev pub MayBegin : PackageList → Asked → NotesView → Limits → (numbers : List ℕ) → Inputs → AskerView → Type 0
MayBegin r asked n limits numbers basis a = MayInquire (explanation_files r)
    (λ ns. (asked ≡ asked_by ns) × AreNotesOf (asked_by ns) [] n) limits numbers basis a

-- what is left of the file; at Ok it is accepted, and this holds of what its lines find
abbrev pub Leaves : {X : Type 0} → PackageList → Limits → (numbers : List ℕ) → Inputs
    → (X → List Finding → Type 0) → (name : List ℕ) → DeskView → DeskView → Result X WorkError → Type 0
Leaves r limits numbers basis Finds name old new result = WrittenAnswers
    (setting_of (explanation_files r) limits basis numbers)
    (course_of (explanation_files r) (λ ns. IsNextQuestion (asked_by ns)) numbers)
    (λ done text. IsAnswered (explanation_files r) limits text numbers (Finds done)) name old new result

-- Where the search may begin, what it leaves of the file is as it is to be; at Ok it is accepted, and what its lines
-- find is noted and decides the answer.
abbrev pub WritesFile : PackageList → Asked → (n m : NotesView) → (numbers : List ℕ) → AskerView → (name : List ℕ)
    → DeskView → DeskView → Result (Unit {0}) WorkError → Type 0
WritesFile r asked n m numbers a name old new result = (limits : Limits) (basis : Inputs)
    → MayBegin r asked n limits numbers basis a
    → Leaves r limits numbers basis (λ done found. AreNotesOf (asked_by numbers) found m
    × AreAnswered (asked_by numbers) found) name old new result

-- or there was no memory, and nothing was done
abbrev pub RunsSearch : PackageList → Asked → (n m : NotesView) → (numbers : List ℕ) → AskerView → (name : List ℕ)
    → DeskView → DeskView → Result (Unit {0}) WorkError → Type 0
RunsSearch r asked n m numbers a name old new result = ((result ≡ Err NoMemory) × (new ≡ old))
    ⊎ WritesFile r asked n m numbers a name old new result

-- The same of the answer, whatever the search kept.
abbrev pub TellsAnswer : PackageList → Asked → (numbers : List ℕ) → AskerView → (name : List ℕ) → DeskView → DeskView
    → Result Explained WorkError → Type 0
TellsAnswer r asked numbers a name old new result = ((result ≡ Err NoMemory) × (new ≡ old))
    ⊎ ((limits : Limits) (basis : Inputs)
    → ((n : NotesView) → AreNotesOf asked [] n → MayBegin r asked n limits numbers basis a)
    → Leaves r limits numbers basis (λ explained found. Answers (asked_by numbers) found explained) name old new result)
