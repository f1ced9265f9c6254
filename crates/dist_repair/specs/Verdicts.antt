-- What is answered of a repair's file: accepted, refused, or an error of work.
use Rattle.std.specs.Prelude.{◌≡◌, ℕ, ◌≤◌, ◌^◌, Bool, true, false, List, Result, Ok, Err, Some, IfSome, length}
use Rattle.std.specs.Prelude.{slice_get}
use Rattle.dist_outside.specs.declared.limits.Limits.{Limits}
use Rattle.dist_outside.specs.declared.trouble.WorkError.{WorkError}
use Rattle.dist_cert.specs.declared.faults.ReadCertError.TheVariants.{Bad, Work}
use Rattle.dist_cert.specs.declared.records.CertRecord.{CertRecord}
use Rattle.dist_judge.specs.Judging.{IsAccepted, IsRefused, StopsWith}
use Rattle.dist_repo.specs.declared.package.Package.{Package}
use Rattle.dist_space.specs.Space.{SpaceView}
use Rattle.dist_findings.specs.AnswerFiles.{files_of, limit_of}
use Rattle.dist_findings.specs.Answers.{IsAnswered}
use Rattle.dist_findings.specs.Findings.{findings}
use Rattle.dist_repair.specs.Answered.{Answers}
use Rattle.dist_repair.specs.Counters.{counted_variables, counter_of}
use Rattle.dist_repair.specs.Means.{Says}
use Rattle.dist_repair.specs.RepairFiles.{asked_by, repair_files}
use Rattle.dist_repair.specs.declared.repair.Repair.{Repair}
use Rattle.dist_repair.specs.declared.repair.Repair.TheVariants.{Outdated, Least, AtLeast}
use Rattle.dist_repair.specs.declared.verdict.RepairHeader.{RepairHeader}
use Rattle.dist_repair.specs.declared.verdict.RepairVerdict.{RepairVerdict}
use Rattle.dist_repair.specs.declared.verdict.RepairVerdict.TheVariants.{Accepted, Refused}

-- what a first line of these numbers asks of, and its limit
pub record IsHeaderOf (numbers : List ℕ) (h : RepairHeader) : Type 0 where
  pub limit : h.limit ≡ limit_of numbers
  pub number : h.package ≡ (asked_by numbers).number
  pub most : h.most ≡ (asked_by numbers).most

-- The text is accepted with this header and this answer: its lines have no fault and keep the limits, and the answer is
-- what they find.
abbrev pub IsRepair : SpaceView → Limits → List ℕ → RepairHeader → Repair → Type 0
IsRepair s limits text h repair = (numbers : List ℕ) × IsHeaderOf numbers h
    × IsAnswered (repair_files s) limits text numbers (λ found. Answers s (asked_by numbers) found repair)

-- Of a text, whatever numbers it passes: its lines have no fault, and the answer is what they find; or it has a first
-- fault.
abbrev pub IsRepairVerdict : SpaceView → Limits → List ℕ → RepairVerdict → Type 0
IsRepairVerdict s limits text (Accepted h repair) = (numbers : List ℕ) × IsHeaderOf numbers h × (steps : List
    CertRecord)
    × IsAccepted (files_of (repair_files s)) limits text numbers steps × Answers s (asked_by numbers) (findings steps)
    repair
IsRepairVerdict s limits text (Refused fault) = IsRefused (files_of (repair_files s)) limits text fault

-- When each answer is given. A fault of the desk and want of memory may come in place of any.
abbrev pub RepairAnswers : SpaceView → Limits → List ℕ → Result RepairVerdict WorkError → Type 0
RepairAnswers s limits text (Ok (Accepted h repair)) = IsRepair s limits text h repair
RepairAnswers s limits text (Ok (Refused fault)) = StopsWith (files_of (repair_files s)) limits text (Bad fault)
RepairAnswers s limits text (Err error) = StopsWith (files_of (repair_files s)) limits text (Work error)

-- the assignments of a repair have a value for each of so many variables
abbrev pub IsOver : (variables : ℕ) → Repair → Type 0
IsOver variables Outdated = Unit {0}
IsOver variables (Least number values) = length values ≡ variables
IsOver variables (AtLeast lower undecided upper) = IfSome upper (λ one. length one.1 ≡ variables)

-- the number is said to be undecided
abbrev pub is_undecided : Repair → Bool
is_undecided (AtLeast lower undecided upper) = undecided
is_undecided repair = false

-- What is accepted asks of a package of the space, what it answers is true of it, and a number is left undecided only
-- where the limit is at most 3 to the power of the number of variables.
pub record AcceptedSays (s : SpaceView) (h : RepairHeader) (repair : Repair) : Type 0 where
  pub package_is : Package
  pub in_range : slice_get s.repository.packages h.package ≡ Some package_is
  pub says : Says s package_is repair
  pub over : IsOver (counted_variables (counter_of s h.most)) repair
  pub hard : is_undecided repair ≡ true → h.limit ≤ 3 ^ counted_variables (counter_of s h.most)

-- what a verdict says whatever the desk tells
abbrev pub VerdictSays : SpaceView → RepairVerdict → Type 0
VerdictSays s (Accepted h repair) = AcceptedSays s h repair
VerdictSays s (Refused fault) = Unit {0}
