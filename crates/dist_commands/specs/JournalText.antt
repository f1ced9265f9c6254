-- How a fault of a journal is told.
use Rattle.std.specs.Prelude.{ℕ, List, codes}
use Rattle.dist_archive.specs.declared.step.StepError.{StepError}
use Rattle.dist_archive.specs.declared.step.StepError.TheVariants as step
use Rattle.dist_journal.specs.declared.fault.JournalFault.{JournalFault}
use Rattle.dist_journal.specs.declared.fault.JournalFault.TheVariants as journal

-- the name of a reason to refuse a step
abbrev pub step_error_text : StepError → List ℕ
step_error_text step.OtherArchitecture = codes "OtherArchitecture"
step_error_text step.NotAbove = codes "NotAbove"
step_error_text (step.NotMember number) = codes "NotMember"
step_error_text (step.NotAtVersion number) = codes "NotAtVersion"
step_error_text (step.WrongProvides number) = codes "WrongProvides"
step_error_text step.NotHeld = codes "NotHeld"
step_error_text step.NotOne = codes "NotOne"
step_error_text step.NameTaken = codes "NameTaken"
step_error_text step.NameVirtual = codes "NameVirtual"
step_error_text step.HasProvides = codes "HasProvides"
step_error_text step.NoMemory = codes "NoMemory"

-- the name of a fault; that of a step which is refused is the reason's
abbrev pub journal_fault_text : JournalFault → List ℕ
journal_fault_text journal.Stray = codes "Stray"
journal_fault_text journal.BadStep = codes "BadStep"
journal_fault_text journal.UnknownName = codes "UnknownName"
journal_fault_text journal.BadBlock = codes "BadBlock"
journal_fault_text (journal.Refused error) = step_error_text error
