-- What `check-repair PACKAGES CERT` comes to.
use Rattle.std.specs.Prelude.{◌≡◌, ℕ, List, Option, Result, Ok, Err}
use Rattle.dist_outside.specs.Files.{Files}
use Rattle.dist_outside.specs.declared.limits.Limits.{Limits}
use Rattle.dist_space.specs.Space.{SpaceView}
use Rattle.dist_cert.specs.declared.faults.ReadCertError.{ReadCertError}
use Rattle.dist_judge.specs.Judging.{StopsWith}
use Rattle.dist_findings.specs.AnswerFiles.{files_of}
use Rattle.dist_repair.specs.RepairFiles.{repair_files}
use Rattle.dist_repair.specs.Verdicts.{AcceptedSays, IsRepair, is_undecided}
use Rattle.dist_repair.specs.declared.repair.Repair.{Repair}
use Rattle.dist_repair.specs.declared.verdict.RepairHeader.{RepairHeader}
use Rattle.dist_report.specs.RepairText.{repair_text}
use Rattle.dist_commands.specs.CheckedFile.{CheckStage}
use Rattle.dist_commands.specs.Claims.{marked_status}
use Rattle.dist_commands.specs.Stages.{Ending, Step, Then, answered}
use Rattle.dist_commands.specs.Steps.{SpaceStages}
use Rattle.dist_commands.specs.declared.status.Status.{Status}

-- when each answer is given of the text of a repair's file: an accepted one says its header, and what is answered
abbrev pub RepairReads : SpaceView → Limits → (text : List ℕ) → Result (RepairHeader × Repair) ReadCertError → Type 0
RepairReads s limits text (Ok accepted) = IsRepair s limits text accepted.0 accepted.1
RepairReads s limits text (Err error) = StopsWith (files_of (repair_files s)) limits text error

-- the header and the answer of CERT where it is accepted, or its first fault, or the number that it passes
abbrev pub RepairStage : Option Files → Limits → (cert : List ℕ) → SpaceView → Step (RepairHeader × Repair) → Type 0
RepairStage files limits cert s step = CheckStage (RepairReads s limits) files cert step

-- the status that goes with an answer
abbrev pub repaired_status : Repair → Status
repaired_status repair = marked_status (is_undecided repair)

-- what is answered of the package is true, and is told
pub record TellsRepair (files : Option Files) (s : SpaceView) (accepted : RepairHeader × Repair) (ending : Ending)
    : Type 0 where
  pub says : AcceptedSays s accepted.0 accepted.1
  pub is : ending ≡ answered files (repaired_status accepted.1) (repair_text s accepted.0.«package» accepted.1)

-- PACKAGES is read and taken apart, and the space of its newest versions is made at mode plain; then CERT is judged.
-- The first stage that is refused decides.
abbrev pub CheckRepairStages : Option Files → Limits → (packages cert : List ℕ)
    → (SpaceView → (RepairHeader × Repair) → Ending → Type 0) → Ending → Type 0
CheckRepairStages files limits packages cert Last = SpaceStages files limits packages (λ space.
    Then (RepairStage files limits cert space) (Last space))
