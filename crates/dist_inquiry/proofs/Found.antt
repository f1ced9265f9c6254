-- What the lines of a question find, and what an end behind lines finds.
use Rattle.std.proofs.Common.{◌≡◌, true, List, [], ◌∷◌, ◌++◌, Option, Some, None, refl, ap, sym, ◌∙◌, append_assoc, append-nil}
use Rattle.std.specs.List.{AllPass}
use Rattle.std.proofs.lemmas.Bool.{false≢true}
use Rattle.std.proofs.lemmas.List.Elements.{All-head, All-tail}
use Rattle.dist_solver.specs.declared.answers.Answer.{Answer}
use Rattle.dist_solver.specs.declared.answers.Answer.TheVariants as answers
use Rattle.dist_cert.specs.declared.records.CertRecord.{CertRecord}
use Rattle.dist_cert.specs.declared.records.CertRecord.TheVariants as lines
use Rattle.dist_cert.specs.Form.{Word}
use Rattle.dist_findings.specs.FindingLaws.{findings_push, open_after}
use Rattle.dist_findings.specs.Findings.{findings, findings_behind, found_at, open_behind}
use Rattle.dist_findings.specs.declared.finding.Finding.{Finding}
use Rattle.dist_line_write.specs.Asking.{is_derived, question_lines}
use Rattle.dist_line_write.specs.Words.{closing_line}
use Rattle.dist_inquiry.specs.AnswerText.{finding_of}

none-at-question : (left : Option (List Word)) (question : List Word) → found_at left (lines.Question question) ≡ []
none-at-question (Some other) question = refl
none-at-question None question = refl

none-at-end : (left : Option (List Word)) → found_at left lines.End ≡ []
none-at-end (Some other) = refl
none-at-end None = refl

at-answer : (question : List Word) (answer : Answer) → found_at (Some question) (closing_line answer) ≡ finding_of question answer ∷ []
at-answer question (answers.Found values) = refl
at-answer question (answers.Refuted hints) = refl
at-answer question answers.Undecided = refl

behind-derived : (question : List Word) (between : List CertRecord) (answer : Answer) → AllPass is_derived between
    → findings_behind (Some question) (between ++ closing_line answer ∷ []) ≡ finding_of question answer ∷ []
unfolding findings_behind
behind-derived question [] answer all = append-nil (found_at (Some question) (closing_line answer)) ∙ at-answer question answer
behind-derived question (lines.Derived literals hints ∷ between) answer all =
    behind-derived question between answer (All-tail (λ s. is_derived s ≡ true) (lines.Derived literals hints) between all)
behind-derived question (step ∷ between) answer all =
    absurd (false≢true (All-head (λ s. is_derived s ≡ true) step between all))

joined : (left : Option (List Word)) (before more : List CertRecord)
    → findings_behind left (before ++ more) ≡ findings_behind left before ++ findings_behind (open_after left before) more
unfolding findings_behind open_after
joined left [] more = refl
joined left (step ∷ before) more =
    ap (λ (fs : List Finding). found_at left step ++ fs) (joined (open_behind left step) before more)
    ∙ sym (append_assoc (found_at left step) (findings_behind (open_behind left step) before)
    (findings_behind (open_after (open_behind left step) before) more))

at-question : (left : Option (List Word)) (question : List Word) (between : List CertRecord) (answer : Answer) → AllPass is_derived between
    → findings_behind left (question_lines question between (closing_line answer)) ≡ finding_of question answer ∷ []
unfolding findings_behind
at-question left question between answer all =
    ap (λ (fs : List Finding). fs ++ findings_behind (Some question) (between ++ closing_line answer ∷ [])) (none-at-question left question)
    ∙ behind-derived question between answer all

pub question-finds : (before : List CertRecord) (question : List Word) (between : List CertRecord) (answer : Answer) → AllPass is_derived between
    → findings (before ++ question_lines question between (closing_line answer)) ≡ findings before ++ finding_of question answer ∷ []
question-finds before question between answer all =
    joined None before (question_lines question between (closing_line answer))
    ∙ ap (λ (fs : List Finding). findings before ++ fs) (at-question (open_after None before) question between answer all)

pub end-finds : (before : List CertRecord) → findings (before ++ lines.End ∷ []) ≡ findings before
end-finds before = findings_push None before lines.End
    ∙ ap (λ (fs : List Finding). findings before ++ fs) (none-at-end (open_after None before)) ∙ append-nil (findings before)
