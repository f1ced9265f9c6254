-- What a run comes to, from its words, the files that the desk tells, and the limits.
use Rattle.std.specs.Prelude.{◌≡◌, ◌⊎◌, ◌≤◌, ℕ, List, [], Option, Some}
use Rattle.dist_base.specs.Front.{IsFrontOf}
use Rattle.dist_outside.specs.Counts.{Rose}
use Rattle.dist_outside.specs.Files.{Files, IsNotWriting}
use Rattle.dist_outside.specs.DeskView.{DeskView, OnlyReads}
use Rattle.dist_outside.specs.SinkView.{SinkView, Grew, GrewByFront}
use Rattle.dist_outside.specs.declared.limits.Limits.{Limits}
use Rattle.dist_commands.specs.Refusal.{status_of, refusal_text}
use Rattle.dist_commands.specs.Stages.{Ending, refused}
use Rattle.dist_words.specs.CommandLine.{CommandLine}
use Rattle.dist_words.specs.Table.{IsBadWords, command_of}
use Rattle.dist_commands.specs.Command.{CommandDecides, CommandRefuses, CommandIsGivenUp, IsApart, OnlyReadsFiles}
use Rattle.dist_commands.specs.declared.status.Status.{Status}
use Rattle.dist_commands.specs.declared.status.Status.TheVariants as status
use Rattle.dist_commands.specs.declared.refusal.Refusal.{Refusal}
use Rattle.dist_commands.specs.declared.refusal.Refusal.TheVariants.{BadWords, ReadFault, WriteFault, NoMemory}

-- An end of the run that the words, the files and the limits decide.
abbrev pub Decides : List (List ℕ) → Option Files → Limits → Ending → Type 0
Decides words files limits ending =
    (IsBadWords words × (ending ≡ refused files BadWords))
    ⊎ ((line : CommandLine) × (command_of words ≡ Some line) × CommandDecides line files limits ending)

-- A refusal that they decide before anything is written.
abbrev pub Refuses : List (List ℕ) → Option Files → Limits → Ending → Type 0
Refuses words files limits ending =
    (IsBadWords words × (ending ≡ refused files BadWords))
    ⊎ ((line : CommandLine) × (command_of words ≡ Some line) × CommandRefuses line files limits ending)

-- The text of an answer that was decided could not be written whole: a front of it was. A file that the command wrote
-- is whole.
pub record IsCutShort (words : List (List ℕ)) (files : Option Files) (limits : Limits) (refusal : Refusal)
    (ending : Ending) : Type 0 where
  pub decided : Ending
  pub decides : Decides words files limits decided
  pub answers : decided.err ≡ []
  pub front : IsFrontOf decided.out ending.out
  pub is : ending ≡ record {
    status = status_of refusal;
    out = ending.out;
    err = refusal_text refusal;
    files = decided.files;
  }

-- The command was given up while it wrote a file.
abbrev pub IsRunGivenUp : List (List ℕ) → Option Files → Limits → Refusal → Ending → Type 0
IsRunGivenUp words files limits refusal ending = (line : CommandLine) × (command_of words ≡ Some line)
    × CommandIsGivenUp line files limits refusal ending

-- A file could not be read, by a command that reads any.
abbrev pub IsUnread : List (List ℕ) → Option Files → Ending → Type 0
IsUnread words files ending = (line : CommandLine) × (command_of words ≡ Some line) × (¬ IsApart line)
    × (ending ≡ refused files ReadFault)

-- The ends that may come at any time: a fault of reading, and want of memory, with nothing printed and all files as
-- before; and a fault of writing, and want of memory, in the midst of a file or with a front of a decided text printed.
abbrev pub IsInterrupted : List (List ℕ) → Option Files → Limits → Ending → Type 0
IsInterrupted words files limits ending =
    IsUnread words files ending
    ⊎ (ending ≡ refused files NoMemory)
    ⊎ (IsRunGivenUp words files limits WriteFault ending ⊎ IsRunGivenUp words files limits NoMemory ending)
    ⊎ (IsCutShort words files limits WriteFault ending ⊎ IsCutShort words files limits NoMemory ending)

-- an end that may come
abbrev pub Comes : List (List ℕ) → Option Files → Limits → Ending → Type 0
Comes words files limits ending = Decides words files limits ending ⊎ IsInterrupted words files limits ending

-- The run ended so: its status, what `out` grew by, and the files.
pub record EndsAs (ending : Ending) (result : Status) (desk desk' : DeskView) (out out' : SinkView) : Type 0 where
  pub status : result ≡ ending.status
  pub printed : Grew ending.out out out'
  pub files : desk'.files ≡ ending.files

-- A text was written whole to a sink, or a front of it where one of the sink's counts rose.
abbrev pub IsTold : List ℕ → SinkView → SinkView → Type 0
IsTold text old new = Grew text old new ⊎ (GrewByFront text old new
    × (Rose old.faults new.faults ⊎ Rose old.wants new.wants))

-- the desk tells its files
abbrev pub TellsFiles : DeskView → Type 0
TellsFiles desk = (files : Files) × (desk.files ≡ Some files)

-- The desk writes no longer, and no count of it fell. It was only read, but by a command that writes a file; bad words,
-- and a command that is apart from it, leave it as it is.
pub record Leaves (words : List (List ℕ)) (old new : DeskView) : Type 0 where
  pub not_writing : IsNotWriting new.mode
  pub read_faults_stand : old.read_faults ≤ new.read_faults
  pub write_faults_stand : old.write_faults ≤ new.write_faults
  pub only_reads : ((line : CommandLine) → command_of words ≡ Some line → OnlyReadsFiles line) → OnlyReads old new
  pub untouched : ((line : CommandLine) → command_of words ≡ Some line → IsApart line) → new ≡ old

-- the end that a fault of writing gave, and the fault
abbrev pub IsWriteFault : List (List ℕ) → Option Files → Limits → Ending → DeskView → DeskView → SinkView → SinkView
    → Type 0
IsWriteFault words files limits ending desk desk' out out' =
    (IsRunGivenUp words files limits WriteFault ending × Rose desk.write_faults desk'.write_faults)
    ⊎ (IsCutShort words files limits WriteFault ending × Rose out.faults out'.faults)

-- What a run promises of its end.
pub record Runs (words : List (List ℕ)) (limits : Limits) (result : Status) (desk desk' : DeskView)
    (out out' err err' : SinkView) : Type 0 where
  -- The status, what `out` grew by, the line on `err` and the files are those of an end that may come.
  pub ending : Ending
  pub comes : Comes words desk.files limits ending
  pub ends : EndsAs ending result desk desk' out out'
  pub told : IsTold ending.err err err'
  pub leaves : Leaves words desk desk'
  -- Bad words are told exactly where the words are of no command, but for want of memory.
  pub words_refused : (result ≡ status.BadWords) → IsBadWords words
  pub words_told : IsBadWords words → (result ≡ status.BadWords) ⊎ (result ≡ status.NoMemory)
  -- Faults are told only where they were counted: of the desk where the command was given up while it wrote, and of
  -- `out` where the text of an answer is cut short.
  pub read_fault : result ≡ status.ReadFault → Rose desk.read_faults desk'.read_faults
  pub write_fault : result ≡ status.WriteFault → IsWriteFault words desk.files limits ending desk desk' out out'
  -- Where the desk tells its files and no fault of reading is counted, a refusal that the inputs decide before anything
  -- is written is the end, but for want of memory. Where no fault is counted, the end is one that the inputs decide,
  -- but for want of memory.
  pub refusal_comes : TellsFiles desk → ¬ Rose desk.read_faults desk'.read_faults → (end : Ending)
      → Refuses words desk.files limits end
      → (ending ≡ end) ⊎ (result ≡ status.NoMemory)
  pub answer_comes : ¬ Rose desk.read_faults desk'.read_faults → ¬ Rose desk.write_faults desk'.write_faults
      → ¬ Rose out.faults out'.faults → Decides words desk.files limits ending ⊎ (result ≡ status.NoMemory)
