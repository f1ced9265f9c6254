-- Why a command was given up, and what it leaves of the desk.
use Rattle.std.specs.Prelude.{◌≡◌, ◌≤◌, ◌⊎◌}
use Rattle.dist_outside.specs.Counts.{Rose}
use Rattle.dist_outside.specs.Files.{IsNotWriting}
use Rattle.dist_outside.specs.DeskView.{DeskView}
use Rattle.dist_outside.specs.declared.limits.Limits.{Limits}
use Rattle.dist_words.specs.CommandLine.{CommandLine}
use Rattle.dist_commands.specs.Command.{CommandDecides, CommandIsGivenUp, IsApart}
use Rattle.dist_commands.specs.Stages.{refused}
use Rattle.dist_commands.specs.declared.refusal.Refusal.{Refusal}
use Rattle.dist_commands.specs.declared.refusal.Refusal.TheVariants.{ReadFault, WriteFault, NoMemory}

-- Memory was wanted: with all files as before, or once a file was begun.
abbrev pub IsUnfinished : CommandLine → Limits → DeskView → DeskView → Type 0
IsUnfinished line limits old new =
    (new.files ≡ old.files) ⊎ CommandIsGivenUp line old.files limits NoMemory (refused new.files NoMemory)

-- The inputs decide the refusal; or a fault of reading was counted, with all files as before; or one of writing, while
-- a file was written; or memory was wanted.
abbrev pub Stops : CommandLine → Limits → DeskView → DeskView → Refusal → Type 0
Stops line limits old new refusal =
    CommandDecides line old.files limits (refused new.files refusal)
    ⊎ ((refusal ≡ ReadFault) × (¬ IsApart line) × (new.files ≡ old.files) × Rose old.read_faults new.read_faults)
    ⊎ ((refusal ≡ WriteFault) × Rose old.write_faults new.write_faults
    × CommandIsGivenUp line old.files limits WriteFault (refused new.files WriteFault))
    ⊎ ((refusal ≡ NoMemory) × IsUnfinished line limits old new)

-- the desk writes no longer, and no count of it fell
pub record LeavesDesk (old new : DeskView) : Type 0 where
  pub not_writing : IsNotWriting new.mode
  pub read_faults_stand : old.read_faults ≤ new.read_faults
  pub write_faults_stand : old.write_faults ≤ new.write_faults
