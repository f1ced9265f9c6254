-- The lines that were written so far, and where the writing stops.
use Rattle.std.specs.Prelude.{◌≡◌, ◌⊎◌, ℕ, ◌<◌, ◌≤◌, Bool, false, List, [], ◌∷◌, ◌++◌, All, Any, length}
use Rattle.std.specs.List.{list_any}
use Rattle.dist_base.specs.Front.{IsFrontOf}
use Rattle.dist_clause.specs.ClauseList.{literal_count}
use Rattle.dist_clause.specs.Formula.{Literal, IsModel, value_of}
use Rattle.dist_outside.specs.Counts.{Rose}
use Rattle.dist_outside.specs.DeskView.{DeskView, FileGrew}
use Rattle.dist_outside.specs.declared.limits.Limits.{Limits}
use Rattle.dist_outside.specs.declared.trouble.What.{What}
use Rattle.dist_outside.specs.declared.trouble.What.TheVariants.{Lines, LineLiterals, RecordLine, Certificate}
use Rattle.dist_outside.specs.declared.trouble.WorkError.{WorkError}
use Rattle.dist_outside.specs.declared.trouble.WorkError.TheVariants.{WriteFault, TooLarge, NoMemory}
use Rattle.dist_cert.specs.declared.faults.CertCause.{CertCause}
use Rattle.dist_cert.specs.declared.records.CertKind.TheVariants.{Outdated}
use Rattle.dist_cert.specs.declared.records.CertRecord.{CertRecord}
use Rattle.dist_cert.specs.declared.records.CertRecord.TheVariants.{Question, Derived, Refuted, Installation, Undecided}
use Rattle.dist_cert.specs.declared.records.Header.{Header}
use Rattle.dist_cert.specs.FileLines.{file_text, lines_text}
use Rattle.dist_cert.specs.Form.{HasForm, Word, is_end, record_text}
use Rattle.dist_cert.specs.Groups.{derived}
use Rattle.dist_cert.specs.LineRules.{HasRecordFault}
use Rattle.dist_cert.specs.Part.{AreFewHints, AsksSome, IsNextDerived}
use Rattle.dist_cert.specs.PartByRecordsLaws.{IsShortLine}
use Rattle.dist_cert.specs.Subject.{Matter}
use Rattle.dist_cert.specs.Writing.{WriterView, ended}
use Rattle.dist_line_write.specs.Words.{true_variables}

-- What a file is written for: its first line, after how many derived lines a question is left undecided, the number of
-- variables and the clauses that questions are asked over, and the limits.
pub record Script : Type 0 where
  pub first : List ℕ
  pub limit : ℕ
  pub variables : ℕ
  pub inputs : List (List Literal)
  pub limits : Limits

-- What the lines of questions are judged by: the clauses alone. Which installations may come, `IsNextLine` says.
abbrev pub matter_in : Script → Matter
matter_in g = record {
  packages = 0;
  variables = g.variables;
  inputs = g.inputs;
  clusters = [];
  present = λ p. p;
  new = λ p class. 0;
  at = λ cluster class. 0;
  IsFuture = λ members. Unit {0};
  IsHealthy = λ members. Unit {0};
}

-- of a first line they take the limit
abbrev pub header_in : Script → Header
header_in g = record {
  kind = Outdated;
  essential = false;
  limit = g.limit;
  packages = 0;
  variables = 0;
  clauses = 0;
}

-- ---- lines of questions

-- The variables are those that are true in a model of the clauses.
pub record Shows (g : Script) (variables : List ℕ) : Type 0 where
  pub values : List Bool
  pub size : length values ≡ g.variables
  pub are : variables ≡ true_variables values
  pub model : IsModel (value_of values) g.inputs

-- What a line keeps besides having no fault: a derived line, an installation and an answer come to a question, one
-- installation or answer at most to each, and an installation shows a model. The end and claims are none of these
-- lines.
abbrev pub IsNextLine : Script → List CertRecord → CertRecord → Type 0
IsNextLine g before (Question question) = Unit {0}
IsNextLine g before (Derived literals hints) = IsNextDerived (matter_in g) (header_in g) before literals
    × AreFewHints (matter_in g) hints
IsNextLine g before (Refuted hints) = AsksSome before × AreFewHints (matter_in g) hints
IsNextLine g before (Installation variables) = AsksSome before × Shows g variables
IsNextLine g before Undecided = AsksSome before
IsNextLine g before step = ⊥

-- The line of this record has no fault behind these lines, whatever its length, and may come next.
pub record IsLine (g : Script) (before : List CertRecord) (step : CertRecord) : Type 0 where
  pub form : HasForm (record_text step) step
  pub not_ended : list_any is_end before ≡ false
  pub faultless : (cause : CertCause) → ¬ HasRecordFault (matter_in g) (header_in g) before step cause
  pub next : IsNextLine g before step

-- each line may come next, behind those before it
abbrev pub AllNext : Script → List CertRecord → List CertRecord → Type 0
AllNext g before [] = Unit {0}
AllNext g before (step ∷ steps) = IsLine g before step × AllNext g (before ++ step ∷ []) steps

-- ---- questions

-- which question may be asked behind some lines
abbrev pub Asks : Type 1
Asks = (before : List CertRecord) → (question : List Word) → Type 0

-- a line that is a question may be asked behind these lines; other lines ask nothing
abbrev pub MayAsk : Asks → List CertRecord → CertRecord → Type 0
MayAsk asks before (Question question) = asks before question
MayAsk asks before step = Unit {0}

-- each question of the lines may be asked, behind the lines before it
abbrev pub AreAsked : Asks → (before lines : List CertRecord) → Type 0
AreAsked asks before [] = Unit {0}
AreAsked asks before (step ∷ steps) = MayAsk asks before step × AreAsked asks (before ++ step ∷ []) steps

-- no question may be asked
abbrev pub NoQuestion : Asks
NoQuestion = λ before question. ⊥

-- the question of this line alone may be asked, right behind these lines; none where the line is no question
abbrev pub OnlyThis : List CertRecord → CertRecord → Asks
OnlyThis lines step = λ before question. (before ≡ lines) × (step ≡ Question question)

-- the line may come next, and if it is a question, it may be asked
abbrev pub MayCome : Script → Asks → List CertRecord → CertRecord → Type 0
MayCome g asks before step = IsLine g before step × MayAsk asks before step

-- ---- lines that are written

-- The derived lines, and the literals in them, keep the numbers.
pub record KeepsLines (limits : Limits) (lines : List CertRecord) : Type 0 where
  pub count : length (derived lines) ≤ limits.lines
  pub literals : literal_count (derived lines) ≤ limits.line_literals

-- The first line and the lines behind it pass no number.
pub record KeepsNumbers (g : Script) (lines : List CertRecord) : Type 0 where
  pub short : All (IsShortLine g.limits) lines
  pub first_short : length g.first < g.limits.record_line
  pub kept : KeepsLines g.limits lines
  pub bytes : length (file_text g.first lines) ≤ g.limits.certificate

-- a writer that has written nothing
abbrev pub new_writer : Limits → WriterView
new_writer limits = record { line_limit = limits.record_line; whole_limit = limits.certificate; written = 0 }

-- the writer behind some lines
abbrev pub writer_at : Script → List CertRecord → WriterView
writer_at g lines = record {
  line_limit = g.limits.record_line;
  whole_limit = g.limits.certificate;
  written = length (file_text g.first lines);
}

-- The lines are written, and the writer stands behind them.
pub record IsWriter (g : Script) (lines : List CertRecord) (w : WriterView) : Type 0 where
  pub written : KeepsNumbers g lines
  pub stands : w ≡ writer_at g lines

-- the file that is being written grew by something
abbrev pub Grows : DeskView → DeskView → Type 0
Grows old new = (bytes : List ℕ) × FileGrew bytes old new

-- ---- where the writing stops

-- The lines pass a number: of derived lines, of literals in them, of bytes in a line, or of bytes.
abbrev pub Passes : Script → List CertRecord → What → Type 0
Passes g steps Lines = g.limits.lines < length (derived steps)
Passes g steps LineLiterals = g.limits.line_literals < literal_count (derived steps)
Passes g steps RecordLine = (g.limits.record_line < length (ended g.first))
    ⊎ Any (λ step. g.limits.record_line < length (ended (record_text step))) steps
Passes g steps Certificate = g.limits.certificate < length (file_text g.first steps)
Passes g steps what = ⊥

-- one line more would pass a number
abbrev pub IsPassed : Script → Asks → List CertRecord → WorkError → Type 0
IsPassed g asks lines (TooLarge what) = (step : CertRecord) × MayCome g asks lines step
    × Passes g (lines ++ step ∷ []) what
IsPassed g asks lines error = ⊥

-- The bytes are a front of the line that comes next.
abbrev pub IsCutOff : Script → Asks → List CertRecord → List ℕ → Type 0
IsCutOff g asks lines cut = (step : CertRecord) × MayCome g asks lines step × IsFrontOf (ended (record_text step)) cut

-- why the writing stops, with a cut line or without one
abbrev pub StopsBy : Script → Asks → List CertRecord → List ℕ → DeskView → DeskView → WorkError → Type 0
StopsBy g asks lines cut old new WriteFault = Rose old.write_faults new.write_faults
StopsBy g asks lines cut old new (TooLarge what) = (cut ≡ []) × IsPassed g asks lines (TooLarge what)
StopsBy g asks lines cut old new NoMemory = Unit {0}
StopsBy g asks lines cut old new error = ⊥

-- The writing went on from some lines and stopped: lines of questions were written, and perhaps a front of one more.
-- They
-- ask what may be asked.
pub record Stops (g : Script) (asks : Asks) (before : List CertRecord) (old new : DeskView) (error : WorkError)
    : Type 0 where
  pub added : List CertRecord
  pub cut : List ℕ
  pub written : KeepsNumbers g (before ++ added)
  pub next : AllNext g before added
  pub asked : AreAsked asks before added
  pub grew : FileGrew (lines_text added ++ cut) old new
  pub cut_off : (cut ≡ []) ⊎ IsCutOff g asks (before ++ added) cut
  pub by : StopsBy g asks (before ++ added) cut old new error

-- why the writing stops in a line of which it may have written a front: one that is the last of these
abbrev pub LineStopsBy : Script → (lines : List CertRecord) → List ℕ → DeskView → DeskView → WorkError → Type 0
LineStopsBy g lines cut old new WriteFault = Rose old.write_faults new.write_faults
LineStopsBy g lines cut old new (TooLarge what) = (cut ≡ []) × Passes g lines what
LineStopsBy g lines cut old new NoMemory = Unit {0}
LineStopsBy g lines cut old new error = ⊥

-- The writing stopped in a line with this text.
pub record StopsIn (g : Script) (text : List ℕ) (lines : List CertRecord) (old new : DeskView) (error : WorkError)
    : Type 0 where
  pub cut : List ℕ
  pub grew : FileGrew cut old new
  pub is_front : IsFrontOf (ended text) cut
  pub by : LineStopsBy g lines cut old new error

-- ---- putting the first line

-- where nothing was written, the writer stands behind the first line
abbrev pub FirstMore : WriterView → WriterView → (line : List ℕ) → Type 0
FirstMore w after line = (g : Script) → line ≡ g.first → w ≡ new_writer g.limits → IsWriter g [] after

-- or the writing stops in it
abbrev pub FirstStops : WriterView → (line : List ℕ) → DeskView → DeskView → WorkError → Type 0
FirstStops w line old new error = (g : Script) → line ≡ g.first → w ≡ new_writer g.limits
    → StopsIn g line [] old new error

-- ---- putting one line

-- Where the writer stood behind some lines, and the derived lines keep the numbers, it stands behind one line more.
abbrev pub PutMore : WriterView → WriterView → CertRecord → Type 0
PutMore w after step = (g : Script) (before : List CertRecord) → IsWriter g before w
    → KeepsLines g.limits (before ++ step ∷ []) → IsWriter g (before ++ step ∷ []) after

-- or the writing stops in it
abbrev pub PutStops : WriterView → CertRecord → DeskView → DeskView → WorkError → Type 0
PutStops w step old new error = (g : Script) (before : List CertRecord) → IsWriter g before w
    → StopsIn g (record_text step) (before ++ step ∷ []) old new error

-- ---- putting lines one after another

abbrev pub PutAll : WriterView → WriterView → List CertRecord → Type 0
PutAll w after steps = (g : Script) (before : List CertRecord) → IsWriter g before w
    → KeepsLines g.limits (before ++ steps) → IsWriter g (before ++ steps) after

-- or the writing stops among them, where they ask nothing
abbrev pub PutAllStops : WriterView → List CertRecord → DeskView → DeskView → WorkError → Type 0
PutAllStops w steps old new error = (g : Script) (before : List CertRecord) → IsWriter g before w
    → AllNext g before steps → KeepsLines g.limits (before ++ steps) → Stops g NoQuestion before old new error

-- the writer stands behind a front of them
abbrev pub PutFront : WriterView → WriterView → (steps front : List CertRecord) → Type 0
PutFront w after steps front = (g : Script) (before : List CertRecord) → IsWriter g before w
    → KeepsLines g.limits (before ++ steps) → IsWriter g (before ++ front) after
