-- What is left of a file of one question, by the answer.
use Rattle.std.proofs.Common.{inl, inr, ℕ, ◌≤◌, List, [], ◌∷◌, ◌++◌, ◌∙◌}
use Rattle.std.proofs.Common.{Some, Result, Ok, Err, IfErr, refl, ap, sym, subst, append-nil, arith, length}
use Rattle.std.proofs.lemmas.List.{take_all}
use Rattle.dist_base.specs.Front.{IsFrontOf}
use Rattle.dist_outside.specs.Counts.{Rose}
use Rattle.dist_outside.specs.DeskView.{Closed, DeskView, FileGrew, Holds}
use Rattle.dist_outside.specs.Files.{Idle, IsNotWriting, Mode, Writing, where_told}
use Rattle.dist_outside.specs.Reading.{DeskWriteCause}
use Rattle.dist_outside.specs.declared.trouble.WorkError.{WorkError}
use Rattle.dist_outside.specs.declared.trouble.WorkError.TheVariants.{ReadFault, WriteFault, TooLarge, NoMemory}
use Rattle.dist_cert.specs.declared.records.CertRecord.TheVariants.{End}
use Rattle.dist_cert.specs.Form.{record_text}
use Rattle.dist_cert.specs.Writing.{ended}
use Rattle.dist_findings.specs.AnswerFiles.{AnswerFile}
use Rattle.dist_findings.specs.Answers.{IsAnswered}
use Rattle.dist_findings.specs.declared.finding.Finding.{Finding}
use Rattle.dist_line_write.specs.Asking.{AskerView}
use Rattle.dist_line_write.specs.Script.{Asks, Script}
use Rattle.dist_line_write.specs.ScriptLaws.{rose-later}
use Rattle.dist_inquiry.specs.AnswerText.{setting_of}
use Rattle.dist_inquiry.specs.Inquiring.{InquiryAnswers, InquiryMore, InquiryStops, course_of}
use Rattle.dist_inquiry.specs.Written.{Course, IsCutText, IsStopped, IsWholeText, LeavesCut, WrittenAnswers, text_so_far}
use Rattle.dist_line_write.specs.ScriptLaws.{text-push}

-- the laws of dist_outside
abbrev pub MoreLaw : Type 0
MoreLaw = (name first second : List ℕ) (old mid new : DeskView) → Holds name first (Writing (where_told old.files name)) old mid → FileGrew second mid new
    → Holds name (first ++ second) (Writing (where_told old.files name)) old new

abbrev pub ClosedLaw : Type 0
ClosedLaw = (name bytes : List ℕ) (mode : Mode) (old mid new : DeskView) → Holds name bytes mode old mid → Closed mid new → Holds name bytes Idle old new

-- A file was made, written and closed.
pub record IsDone (name : List ℕ) (old mid late new : DeskView) : Type 0 where
  pub more : MoreLaw
  pub closing : ClosedLaw
  pub created : Holds name [] (Writing (where_told old.files name)) old mid
  pub closed : Closed late new

holds : (name text : List ℕ) (old mid late new : DeskView) → IsDone name old mid late new → FileGrew text mid late → Holds name text Idle old new
holds name text old mid late new done grew = done.closing name text (Writing (where_told old.files name)) old late new
    (done.more name [] text old mid late done.created grew) done.closed

leaves : (g : Script) (course : Course) (name text : List ℕ) (old new : DeskView) → Holds name text Idle old new
    → IsCutText g course text → LeavesCut g course name old new
leaves g course name text old new there cut = record {
  files = inr (text, cut, there.files);
  not_writing = subst IsNotWriting (sym there.mode_is) tt;
  counts = there.counts;
}

rose-earlier : (old mid new : ℕ) → mid ≤ new → Rose old mid → Rose old new
rose-earlier old mid new more (inl less) = inl (omega (arith, less, more))
rose-earlier old mid new more (inr stands) = inr stands

rose-within : (name text : List ℕ) (old mid late new : DeskView) → IsDone name old mid late new → FileGrew text mid late
    → Rose mid.write_faults late.write_faults → Rose old.write_faults new.write_faults
rose-within name text old mid late new done grew rose =
    rose-earlier old.write_faults late.write_faults new.write_faults done.closed.counts.write_faults_stand
    (rose-later old.write_faults mid.write_faults late.write_faults done.created.counts.write_faults_stand grew.counts.write_faults_stand rose)

-- ---- a refusal while lines are written

cut-of : (g : Script) (course : Course) (mid late : DeskView) (error : WorkError) → (stops : IsStopped g course mid late error)
    → IsCutText g course (text_so_far g stops.before ++ stops.cut)
cut-of g course mid late error stops =
    record { before = stops.before; written = stops.written; cut = stops.cut; is = refl; cut_line = stops.cut_line }

stopped : {X : Type 0} (g : Script) (course : Course) (IsRight : X → List ℕ → Type 0) (name : List ℕ) (old mid late new : DeskView)
    (error : WorkError) → IsDone name old mid late new → IsStopped g course mid late error
    → WrittenAnswers g course IsRight name old new (Err error)
stopped g course IsRight name old mid late new WriteFault done stops =
    let text : List ℕ = text_so_far g stops.before ++ stops.cut in (
      rose-within name text old mid late new done stops.grew stops.by,
      leaves g course name text old new (holds name text old mid late new done stops.grew) (cut-of g course mid late WriteFault stops),
    )
stopped g course IsRight name old mid late new NoMemory done stops =
    let text : List ℕ = text_so_far g stops.before ++ stops.cut in
    leaves g course name text old new (holds name text old mid late new done stops.grew) (cut-of g course mid late NoMemory stops)
stopped g course IsRight name old mid late new (TooLarge what) done stops = (
  text_so_far g stops.before,
  holds name (text_so_far g stops.before) old mid late new done
      (subst (λ (text : List ℕ). FileGrew text mid late)
      (ap (λ (cut : List ℕ). text_so_far g stops.before ++ cut) stops.by.0 ∙ append-nil (text_so_far g stops.before)) stops.grew),
  record { before = stops.before; written = stops.written; is = refl; passes = stops.by.1 },
)
stopped g course IsRight name old mid late new ReadFault done stops = stops.by

pub file-stopped : (file : AnswerFile) (Keeps : List ℕ → Type 0) (asks : List ℕ → Asks)
    (Told : List ℕ → List Finding → Type 0) (numbers : List ℕ) (a : AskerView) (name : List ℕ)
    (old mid late new : DeskView) (error : WorkError) → IsDone name old mid late new → InquiryStops file Keeps asks numbers mid late a error
    → InquiryAnswers file Keeps asks Told numbers a name old new (Err error)
file-stopped file Keeps asks Told numbers a name old mid late new error done stops limits basis may =
    stopped {X = Unit {0}} (setting_of file limits basis numbers) (course_of file asks numbers)
    (λ x text. IsAnswered file limits text numbers (Told numbers)) name old mid late new error done (stops limits basis may)

-- ---- all lines were written

-- all of a text is a front of it
all-of : (bytes : List ℕ) → IsFrontOf bytes bytes
all-of bytes = record { count = length bytes; within = omega arith; is = sym (take_all (length bytes) bytes (omega arith)) }

-- a whole text is what may be written so far, and all of the end
whole-cut : (g : Script) (course : Course) (text : List ℕ) → IsWholeText g course text → IsCutText g course text
whole-cut g course text whole = record {
  before = Some whole.lines;
  written = (whole.written, whole.asked);
  cut = ended (record_text End);
  is = whole.is ∙ text-push g.first whole.lines End;
  cut_line = inr (record_text End, whole.lines ++ End ∷ [], (End, inr (refl, whole.decided), refl, refl), all-of (ended (record_text End)));
}

-- the whole text, which is closed or not
pub file-whole : (file : AnswerFile) (Keeps : List ℕ → Type 0) (asks : List ℕ → Asks)
    (Told : List ℕ → List Finding → Type 0) (numbers : List ℕ) (a : AskerView) (name : List ℕ)
    (old mid late new : DeskView) → IsDone name old mid late new → InquiryMore file Keeps asks Told numbers mid late a
    → InquiryAnswers file Keeps asks Told numbers a name old new (Ok tt)
file-whole file Keeps asks Told numbers a name old mid late new done more limits basis may =
    let x = more limits basis may in (x.text, holds name x.text old mid late new done x.grew, x.whole, x.answered)

-- a fault or want of memory at the end of the writing
caused : {X : Type 0} (g : Script) (course : Course) (IsRight : X → List ℕ → Type 0) (name : List ℕ) (old late new : DeskView)
    (error : WorkError) → old.write_faults ≤ late.write_faults → late.write_faults ≤ new.write_faults → DeskWriteCause error late new
    → LeavesCut g course name old new → WrittenAnswers g course IsRight name old new (Err error)
caused g course IsRight name old late new WriteFault before after cause left =
    (rose-later old.write_faults late.write_faults new.write_faults before after cause, left)
caused g course IsRight name old late new NoMemory before after cause left = left
caused g course IsRight name old late new error before after cause left = absurd cause

file-closed : (file : AnswerFile) (Keeps : List ℕ → Type 0) (asks : List ℕ → Asks)
    (Told : List ℕ → List Finding → Type 0) (numbers : List ℕ) (a : AskerView) (name : List ℕ)
    (old mid late new : DeskView) (error : WorkError) → IsDone name old mid late new → InquiryMore file Keeps asks Told numbers mid late a
    → DeskWriteCause error late new → InquiryAnswers file Keeps asks Told numbers a name old new (Err error)
file-closed file Keeps asks Told numbers a name old mid late new error done more cause limits basis may =
    let x = more limits basis may in
    let g : Script = setting_of file limits basis numbers in
    caused {X = Unit {0}} g (course_of file asks numbers) (λ y text. IsAnswered file limits text numbers (Told numbers)) name old late new error
    (omega (arith, done.created.counts.write_faults_stand, x.grew.counts.write_faults_stand)) done.closed.counts.write_faults_stand cause
    (leaves g (course_of file asks numbers) name x.text old new (holds name x.text old mid late new done x.grew)
    (whole-cut g (course_of file asks numbers) x.text x.whole))

-- all lines were written, and the file is closed or not
pub file-done : (file : AnswerFile) (Keeps : List ℕ → Type 0) (asks : List ℕ → Asks)
    (Told : List ℕ → List Finding → Type 0) (numbers : List ℕ) (a : AskerView) (name : List ℕ)
    (old mid late new : DeskView) (result : Result (Unit {0}) WorkError) → IsDone name old mid late new
    → InquiryMore file Keeps asks Told numbers mid late a
    → IfErr result (λ error. DeskWriteCause error late new) → InquiryAnswers file Keeps asks Told numbers a name old new result
file-done file Keeps asks Told numbers a name old mid late new (Ok tt) done more cause =
    file-whole file Keeps asks Told numbers a name old mid late new done more
file-done file Keeps asks Told numbers a name old mid late new (Err error) done more cause =
    file-closed file Keeps asks Told numbers a name old mid late new error done more cause
