use Rattle.std.proofs.Common.{◌∙◌, ap, sym}
use Rattle.std.proofs.lemmas.Bool.{true≢false}
use Rattle.dist_derive.specs.ClauseLog.{ClauseLog}
use Rattle.dist_check.specs.StartPrivate.{HasNumbers}
use Rattle.dist_check.proofs.Begun.{begins, checker, fits-numbers}
use Rattle.dist_check.proofs.start.start.Goals as goal

pub returns-in-Ok-clause-answers : goal.returns-in-Ok-clause-answers
returns-in-Ok-clause-answers c =
    let h = c.args.header.now in
    let subject = c.in_ok-subject.subject in
    begins c.args.repo.now c.args.limits.now h subject.packages subject.inputs subject.layout subject.future c.in-Ok.checker c.new-notes.result
    c.in_ok-subject.ensures.ok (c.has_numbers.ensures.0 c.if-not-has_numbers.false)
    (c.in-Ok.ensures.value ∙ ap (λ (log : ClauseLog). checker h.limit subject.future log) c.in_ok-log.ensures)
    c.in-Ok.ensures.within c.new-notes.ensures

pub returns-then-not-has_numbers-clause-answers : goal.returns-then-not-has_numbers-clause-answers
returns-then-not-has_numbers-clause-answers c =
    let subject = c.in_ok-subject.subject in
    let wrong : ¬ HasNumbers subject.packages subject.inputs c.args.header.now =
    λ numbers. true≢false (sym (c.has_numbers.ensures.1 numbers) ∙ c.if-not-has_numbers.true) in
    rw c.bad_heading.ensures
    (fits-numbers c.args.repo.now c.args.limits.now c.args.header.now subject.packages subject.inputs subject.layout subject.future
    c.in_ok-subject.ensures.ok wrong)
