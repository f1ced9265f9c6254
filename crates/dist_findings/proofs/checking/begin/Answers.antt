use Rattle.std.proofs.Common.{◌≡◌, ℕ, List, [], Some, None, ap, subst, ◌∙◌}
use Rattle.std.specs.Prelude.{MatchOption}
use Rattle.dist_findings.specs.AnswerFiles.{HasHeading, HasNoHeading, limit_of}
use Rattle.dist_line_check.specs.declared.future.FutureClauses.{FutureClauses}
use Rattle.dist_findings.specs.Start.{GivesInputs}
use Rattle.dist_findings.proofs.Begun.{begun}
use Rattle.dist_findings.proofs.checking.begin.Goals as goal

pub returns-clause-ok : goal.returns-clause-ok
returns-clause-ok g c =
    let file = g.A.Answering.file c.args.answering.now in
    let numbers : List ℕ = c.in-Some.numbers.items in
    let limits = c.args.limits.now in
    let same : c.deref.result.now ≡ numbers = c.deref.ensures.value in
    let heading = subst (λ o. MatchOption o (HasNoHeading file c.args.line.now) (λ v. HasHeading file c.args.line.now v.items)) c.in-Some.is
    c.in_ok-numbers.ensures in
    let right = subst (λ o. GivesInputs file c.deref.result.now limits o) c.in-Some-2.is c.in_ok-inputs.ensures.ok in
    let right2 = subst (λ ns. GivesInputs file ns limits (Some c.in-Some-2.inputs)) same right in
    let future = subst (λ (f : FutureClauses). c.in_ok-checker.checker
    ≡ record { limit = c.limit_of.result; future = f; log = c.in_ok-log.log; question = None })
    c.any_future.ensures c.in_ok-checker.ensures.value in
    begun file limits c.args.line.now numbers c.in-Some-2.inputs c.limit_of.result c.in_ok-log.log c.in_ok-checker.checker heading right2 c.in_ok-log.ensures
    (c.limit_of.ensures ∙ ap limit_of c.deref-3.ensures.value) future c.in_ok-checker.ensures.within

pub returns-clause-noted : goal.returns-clause-noted
returns-clause-noted g c = subst (λ ns. g.A.Answering.noted c.args.answering.now ns [] c.in_ok-notes.notes) c.deref-2.ensures.value c.in_ok-notes.ensures
