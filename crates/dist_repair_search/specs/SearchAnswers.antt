-- What the search for a repair answers, when, and what it leaves of the file.
use Rattle.std.specs.Prelude.{◌≡◌, ◌⊎◌, ℕ, ◌+◌, List, [], ◌∷◌, Result, Ok, Err, length}
use Rattle.dist_outside.specs.Counts.{Rose}
use Rattle.dist_outside.specs.DeskView.{DeskView, Holds}
use Rattle.dist_outside.specs.Files.{Idle}
use Rattle.dist_outside.specs.declared.limits.Limits.{Limits}
use Rattle.dist_outside.specs.declared.trouble.What.{What}
use Rattle.dist_outside.specs.declared.trouble.What.TheVariants.{Variables, Clauses, Literals}
use Rattle.dist_outside.specs.declared.trouble.WorkError.{WorkError}
use Rattle.dist_outside.specs.declared.trouble.WorkError.TheVariants.{ReadFault, WriteFault, TooLarge, NoMemory}
use Rattle.dist_findings.specs.AnswerFiles.{Inputs}
use Rattle.dist_inquiry.specs.AnswerText.{setting_of}
use Rattle.dist_inquiry.specs.Inquiring.{course_of}
use Rattle.dist_line_write.specs.Script.{Script}
use Rattle.dist_inquiry.specs.Written.{Course, IsFull, IsWholeText, LeavesCut}
use Rattle.dist_repair.specs.RepairFiles.{AreCountedInputs, PassesWith, repair_files}
use Rattle.dist_repair.specs.Verdicts.{IsRepair}
use Rattle.dist_repair.specs.declared.repair.Repair.{Repair}
use Rattle.dist_repair.specs.declared.verdict.RepairHeader.{RepairHeader}
use Rattle.dist_space.specs.Space.{SpaceView}
use Rattle.dist_repair_search.specs.QuestionOrder.{repair_asks}

-- the limit, the package, from 0, and the most that is counted to, of a file that is to be written
abbrev pub header_with : (limit number most : ℕ) → RepairHeader
header_with limit number most = record { limit = limit; «package» = number; most = most }

-- the numbers of its first line
abbrev pub first_numbers : SpaceView → RepairHeader → Inputs → List ℕ
first_numbers s h basis = h.limit ∷ length s.repository.packages ∷ basis.variables ∷ length basis.clauses
    ∷ (h.«package» + 1) ∷ h.most ∷ []

-- what is said of such a file, by what it is judged by
abbrev pub OfRepair : SpaceView → RepairHeader → Limits → (Script → Course → Type 0) → Type 0
OfRepair s h limits P = (basis : Inputs) × AreCountedInputs s h.most basis
    × P (setting_of (repair_files s) limits basis (first_numbers s h basis))
    (course_of (repair_files s) (repair_asks s) (first_numbers s h basis))

-- When each answer is given, and what it leaves of the file. At Ok the file is accepted with this answer and header,
-- and it is whole, in the order of questions. Want of memory may come in place of any answer.
abbrev pub SearchAnswers : SpaceView → RepairHeader → Limits → (name : List ℕ) → DeskView → DeskView
    → Result Repair WorkError → Type 0
SearchAnswers s h limits name old new (Ok repair) = (text : List ℕ) × Holds name text Idle old new
    × IsRepair s limits text h repair × OfRepair s h limits (λ g course. IsWholeText g course text)
SearchAnswers s h limits name old new (Err (TooLarge Variables)) = (new ≡ old) × PassesWith s h.most limits Variables
SearchAnswers s h limits name old new (Err (TooLarge Clauses)) = (new ≡ old) × PassesWith s h.most limits Clauses
SearchAnswers s h limits name old new (Err (TooLarge Literals)) = (new ≡ old) × PassesWith s h.most limits Literals
SearchAnswers s h limits name old new (Err (TooLarge what)) = (text : List ℕ) × Holds name text Idle old new
    × OfRepair s h limits (λ g course. IsFull g course what text)
SearchAnswers s h limits name old new (Err WriteFault) = Rose old.write_faults new.write_faults
    × OfRepair s h limits (λ g course. LeavesCut g course name old new)
SearchAnswers s h limits name old new (Err NoMemory) = (new ≡ old)
    ⊎ OfRepair s h limits (λ g course. LeavesCut g course name old new)
SearchAnswers s h limits name old new (Err ReadFault) = ⊥

-- The number that is passed first is told, but for want of memory.
abbrev pub TellsFirst : SpaceView → (most : ℕ) → Limits → Result Repair WorkError → Type 0
TellsFirst s most limits result = (what : What) → PassesWith s most limits what
    → (result ≡ Err (TooLarge what)) ⊎ (result ≡ Err NoMemory)
