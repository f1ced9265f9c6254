-- What a file of one question holds once the writing has ended, and why it ended.
use Rattle.std.specs.Prelude.{◌≡◌, ◌⊎◌, ℕ, List, [], ◌∷◌, ◌++◌, Option, Some, None, Result, Ok, Err}
use Rattle.dist_base.specs.Front.{IsFrontOf}
use Rattle.dist_outside.specs.Counts.{Rose}
use Rattle.dist_outside.specs.DeskView.{DeskView, FileGrew, Holds, WriteCounts}
use Rattle.dist_outside.specs.Files.{Idle, IsNotWriting, with_file}
use Rattle.dist_outside.specs.declared.trouble.What.{What}
use Rattle.dist_outside.specs.declared.trouble.WorkError.{WorkError}
use Rattle.dist_outside.specs.declared.trouble.WorkError.TheVariants.{WriteFault, TooLarge, NoMemory}
use Rattle.dist_cert.specs.declared.records.CertRecord.{CertRecord}
use Rattle.dist_cert.specs.declared.records.CertRecord.TheVariants.{End}
use Rattle.dist_cert.specs.FileLines.{file_text}
use Rattle.dist_cert.specs.Form.{record_text}
use Rattle.dist_cert.specs.Writing.{ended}
use Rattle.dist_inquiry.specs.AnswerText.{whole_text}
use Rattle.dist_line_write.specs.Script.{AllNext, AreAsked, Asks, KeepsNumbers, MayCome, Passes, Script}

-- Lines that may be written so far: each may come behind those before it, and they pass no number.
pub record AreWritten (g : Script) (lines : List CertRecord) : Type 0 where
  pub next : AllNext g [] lines
  pub within : KeepsNumbers g lines

-- What the lines of a file go by: which questions they ask, and when they decide the answer.
pub record Course : Type 1 where
  pub asks : Asks
  pub Decided : List CertRecord → Type 0

-- ---- what may be written so far

-- nothing, or the first line and lines behind it
abbrev pub text_so_far : Script → Option (List CertRecord) → List ℕ
text_so_far g None = []
text_so_far g (Some lines) = file_text g.first lines

-- the lines may come one behind another, and ask what may be asked
abbrev pub MayBeWritten : Script → Course → Option (List CertRecord) → Type 0
MayBeWritten g course None = Unit {0}
MayBeWritten g course (Some lines) = AreWritten g lines × AreAsked course.asks [] lines

-- One line more, with which these stand behind the first: the first line itself; one that may come next; or the end,
-- where the lines decide the answer.
abbrev pub IsNextAt : Script → Course → Option (List CertRecord) → (line : List ℕ) → (after : List CertRecord) → Type 0
IsNextAt g course None line after = (line ≡ g.first) × (after ≡ [])
IsNextAt g course (Some lines) line after = (step : CertRecord)
    × (MayCome g course.asks lines step ⊎ ((step ≡ End) × course.Decided lines))
    × (line ≡ record_text step) × (after ≡ lines ++ step ∷ [])

-- with one line more a number would be passed
abbrev pub PassesNext : Script → Course → Option (List CertRecord) → What → Type 0
PassesNext g course before what = (line : List ℕ) × (after : List CertRecord) × IsNextAt g course before line after
    × Passes g after what

-- the bytes are nothing, or a front of one line more
abbrev pub IsCutLine : Script → Course → Option (List CertRecord) → List ℕ → Type 0
IsCutLine g course before cut = (cut ≡ []) ⊎ ((line : List ℕ) × (after : List CertRecord)
    × IsNextAt g course before line after × IsFrontOf (ended line) cut)

-- ---- where the writing stops

abbrev pub StoppedBy : Script → Course → Option (List CertRecord) → List ℕ → DeskView → DeskView → WorkError → Type 0
StoppedBy g course before cut old new WriteFault = Rose old.write_faults new.write_faults
StoppedBy g course before cut old new (TooLarge what) = (cut ≡ []) × PassesNext g course before what
StoppedBy g course before cut old new NoMemory = Unit {0}
StoppedBy g course before cut old new error = ⊥

-- The writing began with nothing and stopped: lines were written, or none, and perhaps a front of one more.
pub record IsStopped (g : Script) (course : Course) (old new : DeskView) (error : WorkError) : Type 0 where
  pub before : Option (List CertRecord)
  pub cut : List ℕ
  pub written : MayBeWritten g course before
  pub grew : FileGrew (text_so_far g before ++ cut) old new
  pub cut_line : IsCutLine g course before cut
  pub by : StoppedBy g course before cut old new error

-- ---- what it leaves of the file

-- The text is whole: the first line, lines that ask what may be asked and decide the answer, and the end.
pub record IsWholeText (g : Script) (course : Course) (text : List ℕ) : Type 0 where
  pub lines : List CertRecord
  pub is : text ≡ whole_text g lines
  pub written : AreWritten g lines
  pub asked : AreAsked course.asks [] lines
  pub decided : course.Decided lines

-- The text is what may be written so far, and one line more would pass a number.
pub record IsFull (g : Script) (course : Course) (what : What) (text : List ℕ) : Type 0 where
  pub before : Option (List CertRecord)
  pub written : MayBeWritten g course before
  pub is : text ≡ text_so_far g before
  pub passes : PassesNext g course before what

-- The text is what may be written so far, perhaps with a front of one line more behind it.
pub record IsCutText (g : Script) (course : Course) (text : List ℕ) : Type 0 where
  pub before : Option (List CertRecord)
  pub written : MayBeWritten g course before
  pub cut : List ℕ
  pub is : text ≡ text_so_far g before ++ cut
  pub cut_line : IsCutLine g course before cut

-- The desk writes no longer. The file is as before, or holds such a text. All other files are as before.
pub record LeavesCut (g : Script) (course : Course) (name : List ℕ) (old new : DeskView) : Type 0 where
  pub files : (new.files ≡ old.files) ⊎ ((text : List ℕ) × IsCutText g course text
      × (new.files ≡ with_file old.files name text))
  pub not_writing : IsNotWriting new.mode
  pub counts : WriteCounts old new

-- When each answer is given, and what it leaves of the file: a whole text, or what may be written so far. Want of
-- memory may come in place of any answer.
abbrev pub WrittenAnswers : {X : Type 0} → Script → Course → (IsRight : X → List ℕ → Type 0) → (name : List ℕ)
    → DeskView → DeskView → Result X WorkError → Type 0
WrittenAnswers g course IsRight name old new (Ok done) = (text : List ℕ) × Holds name text Idle old new
    × IsWholeText g course text × IsRight done text
WrittenAnswers g course IsRight name old new (Err (TooLarge what)) = (text : List ℕ) × Holds name text Idle old new
    × IsFull g course what text
WrittenAnswers g course IsRight name old new (Err WriteFault) = Rose old.write_faults new.write_faults
    × LeavesCut g course name old new
WrittenAnswers g course IsRight name old new (Err NoMemory) = LeavesCut g course name old new
WrittenAnswers g course IsRight name old new (Err error) = ⊥
