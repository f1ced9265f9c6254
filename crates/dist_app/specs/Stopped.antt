-- What status 8 says of a command that writes a file: a stage before the writing passed a number, or the writing
-- stopped at one that is below what is enough for the file. Nothing is asked of the desk, and faults don't matter.
use Rattle.std.specs.Prelude.{◌≡◌, ◌⊎◌, ℕ, false, List, Option, Some}
use Rattle.dist_base.specs.declared.TheConstants.{DEFAULT_LIMIT}
use Rattle.dist_outside.specs.Files.{Files, with_file}
use Rattle.dist_outside.specs.declared.limits.Limits.{Limits}
use Rattle.dist_outside.specs.declared.trouble.What.{What}
use Rattle.dist_cert.specs.declared.records.CertKind.{CertKind}
use Rattle.dist_subject.specs.Limited.{PassesFirst}
use Rattle.dist_words.specs.CommandLine.{CommandLine, Sweep, Explain, Repair, Try}
use Rattle.dist_words.specs.Table.{command_of}
use Rattle.dist_commands.specs.Explain.{ExplainStages}
use Rattle.dist_commands.specs.Repair.{RepairStages}
use Rattle.dist_commands.specs.Stages.{Ending}
use Rattle.dist_commands.specs.Sweeps.{SweepStages}
use Rattle.dist_commands.specs.Try.{TryStages}
use Rattle.dist_commands.specs.declared.status.Status.{Status}
use Rattle.dist_commands.specs.declared.status.Status.TheVariants.{TooLarge}
use Rattle.dist_app.specs.Complete.{ExplainStopsBelow, RepairStopsBelow, StopsBelowBudget}

-- The command is stopped by a number: in a stage, or, where it writes, below the budget of what it writes.
abbrev pub IsStoppedLow : CommandLine → Option Files → Limits → Ending → Type 0
IsStoppedLow (Sweep kind packages cert essential limit) files limits =
    SweepStages files limits kind packages essential (λ r ending. (text : List ℕ)
    × StopsBelowBudget r kind essential limit limits ending.status text × (ending.files ≡ with_file files cert text))
IsStoppedLow (Explain packages cert named limit) files limits =
    ExplainStages files limits packages named (λ r number ending.
    ExplainStopsBelow limits cert limit r number ending.status files ending.files)
IsStoppedLow (Repair packages cert named most limit) files limits =
    RepairStages files limits packages named most (λ space number ending.
    RepairStopsBelow limits cert most limit space number ending.status files ending.files)
IsStoppedLow (Try size seed) files limits =
    TryStages files limits size seed (λ r ending. (kind : CertKind)
    × (((what : What) × PassesFirst r kind false limits what)
    ⊎ ((text : List ℕ) × StopsBelowBudget r kind false DEFAULT_LIMIT limits ending.status text)))
IsStoppedLow line files limits = λ ending. Unit {0}

-- Where the status is 8, the command was stopped so, by an end with that status and the files that the desk has.
abbrev pub StopsLow : List (List ℕ) → Limits → Status → (files left : Option Files) → Type 0
StopsLow words limits result files left = (line : CommandLine) → command_of words ≡ Some line → result ≡ TooLarge
    → (ending : Ending) × (ending.status ≡ TooLarge) × (ending.files ≡ left) × IsStoppedLow line files limits ending
