-- What stops one of the two searches is below its budget.
use Rattle.std.proofs.Common.{◌≡◌, ℕ, ◌+◌, ◌-◌, ◌<◌, ◌≤◌, Bool, false, List, length, refl, ap, subst, arith}
use Rattle.std.specs.Prelude.{codes}
use Rattle.dist_cert.specs.FirstLines.{first_line}
use Rattle.dist_cert.specs.Writing.{ended}
use Rattle.dist_outside.specs.declared.limits.Limits.{Limits}
use Rattle.dist_outside.specs.declared.trouble.What.{What}
use Rattle.dist_line_write.specs.Script.{Script}
use Rattle.dist_inquiry.specs.AnswerText.{setting_of}
use Rattle.dist_inquiry.specs.Inquiring.{course_of}
use Rattle.dist_inquiry.specs.Written.{IsFull}
use Rattle.dist_explain.specs.ExplanationFiles.{asked_by as explained_by}
use Rattle.dist_explain_search.specs.ExplainAnswers.{OfExplain, explain_course, explain_setting, first_numbers as explain_numbers}
use Rattle.dist_explain_search.specs.ExplainOrder.{IsNextQuestion}
use Rattle.dist_now.specs.PresentClauses.{ArePresentClauses}
use Rattle.dist_repo.specs.PackageList.{PackageList}
use Rattle.dist_clause.specs.Formula.{Literal}
use Rattle.dist_repair.specs.RepairFiles.{asked_by, repair_files}
use Rattle.dist_repair.specs.declared.verdict.RepairHeader.{RepairHeader}
use Rattle.dist_repair_search.specs.QuestionOrder.{repair_asks}
use Rattle.dist_repair_search.specs.SearchAnswers.{OfRepair, first_numbers}
use Rattle.dist_space.specs.Space.{SpaceView}
use Rattle.dist_budget.specs.Budget.{IsBelowFileBudget, record_budget}
use Rattle.dist_budget.specs.SearchBudget.{explanation_questions, explanation_size, repair_size}
use Rattle.dist_budget.proofs.Counts.{asked}
use Rattle.dist_budget.proofs.ExplainQuestions.{few-explain_questions}
use Rattle.dist_budget.proofs.FirstLines.{first-width}
use Rattle.dist_budget.proofs.InquiryLines.{passing, stays-below}
use Rattle.dist_budget.proofs.RepairQuestions.{few-repair_questions}

pub repair-below : (s : SpaceView) (h : RepairHeader) (limits : Limits) (what : What) (text : List ℕ)
    → OfRepair s h limits (λ g course. IsFull g course what text) → IsBelowFileBudget limits (repair_size s h) what
repair-below s h limits what text (basis, are, full) =
    let numbers = first_numbers s h basis in
    let g : Script = setting_of (repair_files s) limits basis numbers in
    let wide = first-width (codes "distfuture-repair 1") numbers in
    let front : length (codes "distfuture-repair 1") ≡ 19 = refl in
    let six : length numbers ≡ 6 = refl in
    let first : length (ended (first_line (codes "distfuture-repair 1") numbers)) ≤ record_budget (repair_size s h).variables =
    omega (arith, wide, front, six) in
    stays-below g (repair_size s h) (repair_asks s numbers) are.variables refl first
    (λ steps kept in_order. few-repair_questions s (asked_by numbers) steps in_order) what
    (passing g (course_of (repair_files s) (repair_asks s) numbers) what text full)

-- a repository has one list of clauses of the present
abbrev pub AreOne : Type 0
AreOne = (r : PackageList) (essential : Bool) (clauses other : List (List Literal)) → ArePresentClauses r essential clauses
    → ArePresentClauses r essential other → other ≡ clauses

pub explanation-below : AreOne → (r : PackageList) (relations : List (List Literal)) (number limit : ℕ) (limits : Limits) (what : What) (text : List ℕ)
    → number < length r.packages → ArePresentClauses r false relations → OfExplain r number limit limits (λ g course. IsFull g course what text)
    → IsBelowFileBudget limits (explanation_size r relations limit) what
explanation-below one r relations number limit limits what text within present (basis, are, full) =
    let numbers = explain_numbers r number limit basis in
    let g : Script = explain_setting r number limit limits basis in
    let long : length are.clauses ≡ length relations = ap length (one r false relations are.clauses present are.are_clauses) in
    let all = are.variables in
    let variables : basis.variables ≡ length r.packages + length relations = omega (arith, all, long) in
    let selectors : basis.variables - length r.packages ≡ length relations = omega (arith, variables) in
    let wide = first-width (codes "distfuture-explain 1") numbers in
    let front : length (codes "distfuture-explain 1") ≡ 20 = refl in
    let four : length numbers ≡ 4 = refl in
    let first : length (ended (first_line (codes "distfuture-explain 1") numbers)) ≤ record_budget (explanation_size r relations limit).variables =
    omega (arith, wide, front, four) in
    stays-below g (explanation_size r relations limit) (IsNextQuestion (explained_by numbers)) variables refl first
    (λ steps kept in_order. subst (λ (m : ℕ). length (asked steps) ≤ explanation_questions m) selectors
    (few-explain_questions (explained_by numbers) (omega (arith, within)) g steps kept in_order)) what
    (passing g (explain_course r number limit basis) what text full)
