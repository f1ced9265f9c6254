-- Why a part of a run was given up, and what it leaves of the desk. No public clause cites it.
use Rattle.std.specs.Prelude.{◌≡◌, ◌⊎◌, ℕ, List, Option, Result, Ok, Err}
use Rattle.dist_outside.specs.Counts.{Rose}
use Rattle.dist_outside.specs.Files.{Files, Idle}
use Rattle.dist_outside.specs.DeskView.{DeskView, Holds}
use Rattle.dist_outside.specs.declared.trouble.What.{What}
use Rattle.dist_outside.specs.declared.trouble.What.TheVariants as what
use Rattle.dist_outside.specs.declared.trouble.WorkError.{WorkError}
use Rattle.dist_outside.specs.declared.trouble.WorkError.TheVariants as work
use Rattle.dist_commands.specs.Stages.{Ending, Ends, Goes, refused}
use Rattle.dist_commands.specs.WrittenFile.{IsFilled, LeavesCut, NumbersStage, Writing}
use Rattle.dist_commands.specs.declared.refusal.Refusal.{Refusal}
use Rattle.dist_commands.specs.declared.refusal.Refusal.TheVariants.{ReadFault, WriteFault, NoMemory}

-- ---- commands that only read

-- for want of memory, or since the inputs decide so
abbrev pub IsPartGivenUp : (Ending → Type 0) → Option Files → Refusal → Type 0
IsPartGivenUp Decided files refusal = (refusal ≡ NoMemory) ⊎ Decided (refused files refusal)

-- the same, or for a fault of reading that was counted
abbrev pub IsDue : (Ending → Type 0) → DeskView → DeskView → Refusal → Type 0
IsDue Decided old new refusal = ((refusal ≡ ReadFault) × Rose old.read_faults new.read_faults)
    ⊎ IsPartGivenUp Decided old.files refusal

-- ---- commands that write a file

-- When each answer of a writer is given, and what it leaves of the file. Want of memory may come in place of any.
abbrev pub WriterAnswers : {X : Type 0} → Writing X → (name : List ℕ) → DeskView → DeskView → Result X WorkError
    → Type 0
WriterAnswers writing name old new (Ok made) =
    (text : List ℕ) × Holds name text Idle old new × writing.IsWhole made text
WriterAnswers writing name old new (Err (work.TooLarge what.Variables)) =
    (new ≡ old) × writing.PassesFirst what.Variables
WriterAnswers writing name old new (Err (work.TooLarge what.Clauses)) =
    (new ≡ old) × writing.PassesFirst what.Clauses
WriterAnswers writing name old new (Err (work.TooLarge what.Literals)) =
    (new ≡ old) × writing.PassesFirst what.Literals
WriterAnswers writing name old new (Err (work.TooLarge number)) =
    (text : List ℕ) × Holds name text Idle old new × writing.IsFull number text
WriterAnswers writing name old new (Err work.WriteFault) =
    Rose old.write_faults new.write_faults × LeavesCut writing name old.files new.files
WriterAnswers writing name old new (Err work.NoMemory) = LeavesCut writing name old.files new.files
WriterAnswers writing name old new (Err work.ReadFault) = ⊥

-- The number that is passed first is told, but for want of memory.
abbrev pub TellsNumber : {X : Type 0} → Writing X → Result X WorkError → Type 0
TellsNumber writing result = (number : What) → writing.PassesFirst number
    → (result ≡ Err (work.TooLarge number)) ⊎ (result ≡ Err work.NoMemory)

-- The writing was given up: what the file is judged by passes a number, a later line does, a fault of writing was
-- counted, or memory was wanted, perhaps for what is told alone.
abbrev pub WritingStops : {X : Type 0} → Writing X → (name : List ℕ) → DeskView → DeskView → Refusal → Type 0
WritingStops writing name old new refusal =
    NumbersStage writing.PassesFirst old.files (Ends (refused new.files refusal))
    ⊎ (NumbersStage writing.PassesFirst old.files (Goes tt)
    × IsFilled writing old.files name (refused new.files refusal))
    ⊎ ((refusal ≡ WriteFault) × Rose old.write_faults new.write_faults
    × NumbersStage writing.PassesFirst old.files (Goes tt) × LeavesCut writing name old.files new.files)
    ⊎ ((refusal ≡ NoMemory) × LeavesCut writing name old.files new.files)
