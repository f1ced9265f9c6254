-- What a writer of certificates knows, and when it writes a line.
use Rattle.std.specs.Prelude.{◌≡◌, ℕ, ◌+◌, ◌<◌, ◌≤◌, List, [], ◌∷◌, ◌++◌, length, Result, Ok, Err}
use Rattle.dist_outside.specs.Counts.{Rose}
use Rattle.dist_outside.specs.DeskView.{DeskView}
use Rattle.dist_outside.specs.declared.trouble.What.TheVariants.{RecordLine, Certificate}
use Rattle.dist_outside.specs.declared.trouble.WorkError.{WorkError}
use Rattle.dist_outside.specs.declared.trouble.WorkError.TheVariants.{WriteFault, TooLarge, NoMemory}

-- the most bytes of a line with its line feed, the most bytes of the whole, and how many bytes were written so far
pub record WriterView : Type 0 where
  pub line_limit : ℕ
  pub whole_limit : ℕ
  pub written : ℕ

-- a line with its line feed
abbrev pub ended : List ℕ → List ℕ
ended text = text ++ 10 ∷ []

-- the writer after a line, which has its line feed
abbrev pub after_line : WriterView → List ℕ → WriterView
after_line w line = record w { written = w.written + length line }

-- the line is within its limit, and the whole with it
pub record HasRoom (w : WriterView) (line : List ℕ) : Type 0 where
  pub line_within : length line ≤ w.line_limit
  pub whole_within : w.written + length line ≤ w.whole_limit

-- the line is within its limit, and the whole with it is not
pub record IsWholeTooLarge (w : WriterView) (line : List ℕ) : Type 0 where
  pub line_within : length line ≤ w.line_limit
  pub whole_passed : w.whole_limit < w.written + length line

-- the desk failed while it wrote a line for which there was room
pub record IsCutOff (w : WriterView) (line : List ℕ) (old new : DeskView) : Type 0 where
  pub room : HasRoom w line
  pub rose : Rose old.write_faults new.write_faults

-- When a line is written, and when each refusal is given. Want of memory may come in place of any answer.
abbrev pub PutAnswers : {X : Type 0} → WriterView → List ℕ → DeskView → DeskView → Result X WorkError → Type 0
PutAnswers w line old new (Ok done) = HasRoom w line
PutAnswers w line old new (Err (TooLarge RecordLine)) = w.line_limit < length line
PutAnswers w line old new (Err (TooLarge Certificate)) = IsWholeTooLarge w line
PutAnswers w line old new (Err WriteFault) = IsCutOff w line old new
PutAnswers w line old new (Err NoMemory) = Unit {0}
PutAnswers w line old new (Err error) = ⊥

-- Where a limit would be passed, nothing is written.
abbrev pub WritesNothing : {X : Type 0} → DeskView → DeskView → Result X WorkError → Type 0
WritesNothing old new (Err (TooLarge what)) = new ≡ old
WritesNothing old new other = Unit {0}
