-- What the search for an explanation answers, when, and what it leaves of the file.
use Rattle.std.specs.Prelude.{◌≡◌, ◌⊎◌, ℕ, ◌+◌, ◌-◌, List, [], ◌∷◌, Result, Ok, Err, length}
use Rattle.dist_outside.specs.Counts.{Rose}
use Rattle.dist_outside.specs.DeskView.{DeskView, Holds}
use Rattle.dist_outside.specs.Files.{Idle}
use Rattle.dist_outside.specs.declared.limits.Limits.{Limits}
use Rattle.dist_outside.specs.declared.trouble.What.{What}
use Rattle.dist_outside.specs.declared.trouble.What.TheVariants.{Variables, Clauses, Literals}
use Rattle.dist_outside.specs.declared.trouble.WorkError.{WorkError}
use Rattle.dist_outside.specs.declared.trouble.WorkError.TheVariants.{ReadFault, WriteFault, TooLarge, NoMemory}
use Rattle.dist_repo.specs.PackageList.{PackageList}
use Rattle.dist_explain.specs.ExplanationFiles.{IsSelectedOf, PassesFirst, asked_by, explanation_files}
use Rattle.dist_explain.specs.Verdicts.{IsExplanation}
use Rattle.dist_explain.specs.declared.explained.Explained.{Explained}
use Rattle.dist_findings.specs.AnswerFiles.{Inputs}
use Rattle.dist_inquiry.specs.AnswerText.{setting_of}
use Rattle.dist_inquiry.specs.Inquiring.{course_of}
use Rattle.dist_line_write.specs.Script.{Script}
use Rattle.dist_inquiry.specs.Written.{Course, IsFull, IsWholeText, LeavesCut}
use Rattle.dist_explain_search.specs.ExplainOrder.{IsNextQuestion}

-- the numbers of the first line of a file on the package of a number, from 0
abbrev pub first_numbers : PackageList → (number limit : ℕ) → Inputs → List ℕ
first_numbers r number limit basis =
    limit ∷ length r.packages ∷ (basis.variables - length r.packages) ∷ (number + 1) ∷ []

-- what such a file is written for
abbrev pub explain_setting : PackageList → (number limit : ℕ) → Limits → Inputs → Script
explain_setting r number limit limits basis =
    setting_of (explanation_files r) limits basis (first_numbers r number limit basis)

-- its lines ask the questions of the search in their order
abbrev pub explain_course : PackageList → (number limit : ℕ) → Inputs → Course
explain_course r number limit basis =
    course_of (explanation_files r) (λ numbers. IsNextQuestion (asked_by numbers)) (first_numbers r number limit basis)

-- This holds of a file on the package: by the clauses with selectors that it is judged by.
abbrev pub OfExplain : PackageList → (number limit : ℕ) → Limits → (Script → Course → Type 0) → Type 0
OfExplain r number limit limits P = (basis : Inputs) × IsSelectedOf r basis
    × P (explain_setting r number limit limits basis) (explain_course r number limit basis)

-- When each answer is given, and what it leaves of the file. At Ok the file is whole, and accepted with this answer for
-- the package and the limit. Want of memory may come in place of any answer.
abbrev pub ExplainAnswers : PackageList → (number limit : ℕ) → Limits → (name : List ℕ) → DeskView → DeskView
    → Result Explained WorkError → Type 0
ExplainAnswers r number limit limits name old new (Ok explained) = (text : List ℕ) × Holds name text Idle old new
    × IsExplanation r limits text (record { limit = limit; «package» = number }) explained
    × OfExplain r number limit limits (λ g course. IsWholeText g course text)
ExplainAnswers r number limit limits name old new (Err (TooLarge Variables)) =
    (new ≡ old) × PassesFirst r limits Variables
ExplainAnswers r number limit limits name old new (Err (TooLarge Clauses)) = (new ≡ old) × PassesFirst r limits Clauses
ExplainAnswers r number limit limits name old new (Err (TooLarge Literals)) =
    (new ≡ old) × PassesFirst r limits Literals
ExplainAnswers r number limit limits name old new (Err (TooLarge what)) = (text : List ℕ) × Holds name text Idle old new
    × OfExplain r number limit limits (λ g course. IsFull g course what text)
ExplainAnswers r number limit limits name old new (Err WriteFault) = Rose old.write_faults new.write_faults
    × OfExplain r number limit limits (λ g course. LeavesCut g course name old new)
ExplainAnswers r number limit limits name old new (Err NoMemory) = (new ≡ old)
    ⊎ OfExplain r number limit limits (λ g course. LeavesCut g course name old new)
ExplainAnswers r number limit limits name old new (Err ReadFault) = ⊥

-- The number that is passed first is told, but for want of memory.
abbrev pub TellsFirst : PackageList → Limits → Result Explained WorkError → Type 0
TellsFirst r limits result = (what : What) → PassesFirst r limits what
    → (result ≡ Err (TooLarge what)) ⊎ (result ≡ Err NoMemory)
