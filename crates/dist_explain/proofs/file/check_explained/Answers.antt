use Rattle.std.proofs.Common.{◌≡◌, ◌∙◌, List, ℕ, Ok, ap, subst}
use Rattle.dist_outside.specs.Files.{file_bytes}
use Rattle.dist_judge.specs.Judging.{OfText}
use Rattle.dist_explain.specs.ExplanationFiles.{asked_by, explanation_files}
use Rattle.dist_explain.specs.NotesPrivate.{AreNotesOf}
use Rattle.dist_explain.specs.Verdicts.{IsExplanation, header_by}
use Rattle.dist_explain.proofs.FileLemmas.{accepted-answers, of-text-more}
use Rattle.dist_findings.specs.Answers.{IsAnswered}
use Rattle.dist_findings.specs.FileAnswers.{FileAnswers}
use Rattle.dist_explain.proofs.file.check_explained.Goals as goal

pub returns-in-Ok-Accepted-clause-text : goal.returns-in-Ok-Accepted-clause-text
returns-in-Ok-Accepted-clause-text g c =
    let r = c.args.repo.now in
    let limits = c.args.limits.now in
    let numbers : List ℕ = c.in-Ok-Accepted.numbers.items in
    let bytes = file_bytes (g.D.Desk.view c.args.desk.now).files c.args.name.now in
    let same : c.header_by-header.result ≡ header_by numbers = c.header_by-header.ensures ∙ ap header_by c.deref.ensures.value in
    let told = subst (λ a. OfText bytes (λ text. FileAnswers (explanation_files r) limits (λ ns found notes. AreNotesOf (asked_by ns) found notes) text (Ok a)))
    c.in-Ok-Accepted.field-0-is c.in-Ok-Accepted.ensures.text in
    of-text-more (λ text. IsAnswered (explanation_files r) limits text numbers (λ found. AreNotesOf (asked_by numbers) found c.in-Ok-Accepted.notes))
    (λ text. IsExplanation r limits text c.header_by-header.result c.answer.result)
    (λ text x. accepted-answers c.forms_are_clear.ensures r limits text numbers c.header_by-header.result c.in-Ok-Accepted.notes c.answer.result same
    c.answer.ensures x) bytes told

pub returns-in-Ok-Accepted-clause-some : goal.returns-in-Ok-Accepted-clause-some
returns-in-Ok-Accepted-clause-some g c =
    let r = c.args.repo.now in
    let limits = c.args.limits.now in
    let numbers : List ℕ = c.in-Ok-Accepted.numbers.items in
    let same : c.header_by-header.result ≡ header_by numbers = c.header_by-header.ensures ∙ ap header_by c.deref.ensures.value in
    let some = subst (λ a. (text : List ℕ)
    × FileAnswers (explanation_files r) limits (λ ns found notes. AreNotesOf (asked_by ns) found notes) text (Ok a)) c.in-Ok-Accepted.field-0-is
    c.in-Ok-Accepted.ensures.some in (
      some.0,
      accepted-answers c.forms_are_clear.ensures r limits some.0 numbers c.header_by-header.result c.in-Ok-Accepted.notes c.answer.result same
          c.answer.ensures some.1,
    )

pub returns-in-Ok-Accepted-clause-means : goal.returns-in-Ok-Accepted-clause-means
returns-in-Ok-Accepted-clause-means g c =
    let r = c.args.repo.now in
    let limits = c.args.limits.now in
    let numbers : List ℕ = c.in-Ok-Accepted.numbers.items in
    let same : c.header_by-header.result ≡ header_by numbers = c.header_by-header.ensures ∙ ap header_by c.deref.ensures.value in
    let some = subst (λ a. (text : List ℕ)
    × FileAnswers (explanation_files r) limits (λ ns found notes. AreNotesOf (asked_by ns) found notes) text (Ok a)) c.in-Ok-Accepted.field-0-is
    c.in-Ok-Accepted.ensures.some in
    c.accepted_explanations_hold.ensures r limits some.0 c.header_by-header.result c.answer.result c.keeps_invariant.ensures.in_order
    (accepted-answers c.forms_are_clear.ensures r limits some.0 numbers c.header_by-header.result c.in-Ok-Accepted.notes c.answer.result same
    c.answer.ensures some.1)
