-- The clauses and the open question that are kept, with one line more.
use Rattle.std.proofs.Common.{◌≡◌, ℕ, ◌≤◌, true, List, [], ◌∷◌, ◌++◌, Option, Some, None, length, drop, refl, sym, ap}
use Rattle.std.proofs.Common.{◌∙◌}
use Rattle.std.proofs.Common.{arith}
use Rattle.std.proofs.lemmas.List.{append-nil, drop_at}
use Rattle.std.proofs.lemmas.Grind.{flat_map-append}
use Rattle.dist_clause.specs.ClauseList.{literal_count}
use Rattle.dist_clause.specs.Formula.{Literal}
use Rattle.dist_derive.specs.ClauseLog.{ClauseLog, IsWithinLineLimits, lines_of}
use Rattle.dist_cert.specs.declared.records.CertRecord.{CertRecord}
use Rattle.dist_cert.specs.Groups.{derived_in, derived, leaves_open}
use Rattle.dist_cert.specs.GroupLaws.{IsOpening, still-open, none-still}
use Rattle.dist_line_check.specs.LinesAt.{IsQuestionOf}
use Rattle.dist_line_check.specs.Checker.{QuestionView}

pub derived-push : (before : List CertRecord) (step : CertRecord)
    → derived (before ++ step ∷ []) ≡ derived before ++ derived_in step
derived-push before step = flat_map-append derived_in before (step ∷ [])
    ∙ ap (λ (cs : List (List Literal)). derived before ++ cs) (append-nil (derived_in step))

-- nothing derived
pub derived-same : (inputs : List (List Literal)) (before : List CertRecord) (step : CertRecord) → derived_in step ≡ []
    → inputs ++ derived before ≡ inputs ++ derived (before ++ step ∷ [])
derived-same inputs before step none = ap (λ (cs : List (List Literal)). inputs ++ cs)
    (sym (derived-push before step ∙ ap (λ (cs : List (List Literal)). derived before ++ cs) none
    ∙ append-nil (derived before)))

-- a line that leaves a question open, and opens none
pub question-stays : (inputs : List (List Literal)) (before : List CertRecord) (step : CertRecord)
    → leaves_open step ≡ true → ¬ IsOpening step → (question : Option QuestionView)
    → IsQuestionOf inputs before question → IsQuestionOf inputs (before ++ step ∷ []) question
question-stays inputs before step leaves never None none = none-still before step never none
question-stays inputs before step leaves never (Some q) here =
    (here.0, here.1 ++ step ∷ [], still-open before step here.0 q.assumptions here.1 leaves here.2, here.3)

-- the derived lines that are kept are within the numbers
pub lines-kept : (inputs : List (List Literal)) (steps : List CertRecord) (log : ClauseLog) (lines literals : ℕ)
    → log.clauses ≡ inputs ++ derived steps → log.inputs ≡ length inputs → log.line_limit ≡ lines
    → log.line_literal_limit ≡ literals → IsWithinLineLimits log
    → (length (derived steps) ≤ lines) × (literal_count (derived steps) ≤ literals) × (lines_of log ≡ derived steps)
lines-kept inputs steps log lines literals clauses count line_limit literal_limit within =
    let are : lines_of log ≡ derived steps = ap (λ (n : ℕ). drop n log.clauses) count
    ∙ ap (λ (cs : List (List Literal)). drop (length inputs) cs) clauses
    ∙ drop_at inputs (derived steps) (length inputs) refl in (
      omega (arith, within.lines_within, line_limit, ap (λ (cs : List (List Literal)). length cs) are),
      omega (arith, within.literals_within, literal_limit, ap literal_count are),
      are,
    )
