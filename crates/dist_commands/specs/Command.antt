-- What each command comes to, from the files and the limits.
use Rattle.std.specs.Prelude.{false, Option}
use Rattle.dist_outside.specs.Files.{Files}
use Rattle.dist_outside.specs.declared.limits.Limits.{Limits}
use Rattle.dist_cert.specs.declared.records.CertKind.TheVariants.{Strong}
use Rattle.dist_words.specs.CommandLine.{CommandLine, Health, Classes, Sweep, Check, CheckExplain, Explain, CheckRepair}
use Rattle.dist_words.specs.CommandLine.{Repair, Try, Steps, Follow}
use Rattle.dist_commands.specs.Check.{CheckStages, Reports}
use Rattle.dist_commands.specs.CheckExplain.{CheckExplainStages, TellsExplained}
use Rattle.dist_commands.specs.CheckRepair.{CheckRepairStages, TellsRepair}
use Rattle.dist_commands.specs.Classes.{ClassesStages, TellsClasses}
use Rattle.dist_commands.specs.Explain.{ExplainStages, Explains, IsExplainGivenUp}
use Rattle.dist_commands.specs.Follow.{FollowStages, TellsFollowed}
use Rattle.dist_commands.specs.Health.{HealthStages, Judges}
use Rattle.dist_commands.specs.Repair.{IsRepairGivenUp, RepairStages, Repairs}
use Rattle.dist_commands.specs.Stages.{Ending, Ends}
use Rattle.dist_commands.specs.Steps.{StepsStages, TellsLater}
use Rattle.dist_commands.specs.Sweeps.{InputsStage, SweepStages, Sweeps, IsSweepGivenUp}
use Rattle.dist_commands.specs.Try.{TryStages, Tries}
use Rattle.dist_commands.specs.declared.refusal.Refusal.{Refusal}

-- the ends that the inputs decide
abbrev pub CommandDecides : CommandLine → Option Files → Limits → Ending → Type 0
CommandDecides (Health packages list) files limits = HealthStages files limits packages list (Judges files)
CommandDecides (Classes packages) files limits = ClassesStages files limits packages (TellsClasses files)
CommandDecides (Sweep kind packages cert essential limit) files limits =
    SweepStages files limits kind packages essential (Sweeps files limits kind cert essential limit)
CommandDecides (Check packages cert) files limits = CheckStages files limits packages cert (Reports files)
CommandDecides (CheckExplain packages cert) files limits =
    CheckExplainStages files limits packages cert (TellsExplained files)
CommandDecides (Explain packages cert named limit) files limits =
    ExplainStages files limits packages named (Explains files limits cert limit)
CommandDecides (CheckRepair packages cert) files limits =
    CheckRepairStages files limits packages cert (TellsRepair files)
CommandDecides (Repair packages cert named most limit) files limits =
    RepairStages files limits packages named most (Repairs files limits cert most limit)
CommandDecides (Try size seed) files limits = TryStages files limits size seed (Tries files limits size)
CommandDecides (Steps packages later) files limits = StepsStages files limits packages later (TellsLater files)
CommandDecides (Follow packages cert journal) files limits =
    FollowStages files limits packages cert journal (TellsFollowed files limits.stanzas)

-- The refusals that come whatever happens later: the end of a stage before the last one; of a trial also that of its
-- first sweep, before it writes.
abbrev pub CommandRefuses : CommandLine → Option Files → Limits → Ending → Type 0
CommandRefuses (Health packages list) files limits =
    HealthStages files limits packages list (λ repository members ending. ⊥)
CommandRefuses (Classes packages) files limits = ClassesStages files limits packages (λ repository ending. ⊥)
CommandRefuses (Sweep kind packages cert essential limit) files limits =
    SweepStages files limits kind packages essential (λ repository ending. ⊥)
CommandRefuses (Check packages cert) files limits =
    CheckStages files limits packages cert (λ repository accepted ending. ⊥)
CommandRefuses (CheckExplain packages cert) files limits =
    CheckExplainStages files limits packages cert (λ repository accepted ending. ⊥)
CommandRefuses (Explain packages cert named limit) files limits =
    ExplainStages files limits packages named (λ repository number ending. ⊥)
CommandRefuses (CheckRepair packages cert) files limits =
    CheckRepairStages files limits packages cert (λ space accepted ending. ⊥)
CommandRefuses (Repair packages cert named most limit) files limits =
    RepairStages files limits packages named most (λ space number ending. ⊥)
CommandRefuses (Try size seed) files limits = TryStages files limits size seed
    (λ repository ending. InputsStage files limits Strong false repository (Ends ending))
CommandRefuses (Steps packages later) files limits = StepsStages files limits packages later (λ space l ending. ⊥)
CommandRefuses (Follow packages cert journal) files limits =
    FollowStages files limits packages cert journal (λ space accepted text ending. ⊥)

-- the ends of a command that was given up while it wrote a file
abbrev pub CommandIsGivenUp : CommandLine → Option Files → Limits → Refusal → Ending → Type 0
CommandIsGivenUp (Sweep kind packages cert essential limit) files limits =
    IsSweepGivenUp files limits kind packages cert essential limit
CommandIsGivenUp (Explain packages cert named limit) files limits =
    IsExplainGivenUp files limits packages cert named limit
CommandIsGivenUp (Repair packages cert named most limit) files limits =
    IsRepairGivenUp files limits packages cert named most limit
CommandIsGivenUp line files limits = λ refusal ending. ⊥

-- the command does nothing with the desk
abbrev pub IsApart : CommandLine → Type 0
IsApart (Try size seed) = Unit {0}
IsApart line = ⊥

-- the command leaves all files as they are
abbrev pub OnlyReadsFiles : CommandLine → Type 0
OnlyReadsFiles (Sweep kind packages cert essential limit) = ⊥
OnlyReadsFiles (Explain packages cert named limit) = ⊥
OnlyReadsFiles (Repair packages cert named most limit) = ⊥
OnlyReadsFiles line = Unit {0}
