use Rattle.std.proofs.Common.{◌≡◌, List, ℕ, Option, Some, None, Result, Ok, Err, IfErr, ◌∙◌}
use Rattle.dist_outside.specs.declared.limits.Limits.{Limits}
use Rattle.dist_repo.specs.PackageList.{PackageList}
use Rattle.dist_cert.specs.declared.faults.ReadCertError.{ReadCertError}
use Rattle.dist_cert.specs.declared.records.Claim.{Claim}
use Rattle.dist_cert.specs.declared.records.Header.{Header}
use Rattle.dist_check_state.specs.State.{StateView}
use Rattle.dist_line_check.specs.Checked as checked
use Rattle.dist_check.specs.CertificateLines.{certificate_lines}
use Rattle.dist_check.specs.Checking.{LargeCause, TextAnswers}
use Rattle.dist_judge.specs.Judging.{OfText}
use Rattle.dist_judge.specs.ReadingLaws.{by_exit}
use Rattle.dist_check.proofs.LargeCauses.{some-large}
use Rattle.dist_check.proofs.checking.claims_behind.Goals as goal

-- the claims of what is noted
claimed : (r : PackageList) (limits : Limits) (h : Header) (text : List ℕ) (s : StateView) (made : List Claim) → made ≡ s.claims
    → checked.TextAnswers (certificate_lines r) limits h (λ (t : StateView). t) text (Ok s)
    → TextAnswers (λ (m : List Claim). h) (λ (m : List Claim). m) r limits text (Ok made)
claimed r limits h text s made is done = record {
  basis = done.basis;
  is_basis = done.is_basis;
  steps = done.steps;
  accepted = done.accepted;
  claims = is ∙ done.claims.claims;
  numbers = done.numbers;
}

claimed-told : (r : PackageList) (limits : Limits) (h : Header) (told : Option (List ℕ)) (s : StateView) (made : List Claim) → made ≡ s.claims
    → OfText told (λ text. checked.TextAnswers (certificate_lines r) limits h (λ (t : StateView). t) text (Ok s))
    → OfText told (λ text. TextAnswers (λ (m : List Claim). h) (λ (m : List Claim). m) r limits text (Ok made))
claimed-told r limits h None s made is done = tt
claimed-told r limits h (Some text) s made is done = claimed r limits h text s made is done

pub check_lines-requires-clause-begun : goal.check_lines-requires-clause-begun
check_lines-requires-clause-begun g c = (c.args.limits.now, c.args.header.now, c.requires.start)

pub returns-in_err-notes-clause-text : goal.returns-in_err-notes-clause-text
returns-in_err-notes-clause-text g c = λ told x.
    by_exit (λ (r : Result (List Claim) ReadCertError). OfText told
    (λ text. TextAnswers (λ (m : List Claim). c.args.header.now) (λ (m : List Claim). m) c.args.repo.now c.args.limits.now text r))
    c.from_residual.result c.in_err-notes.field-0.0 c.from_residual.ensures.1
    (c.in_err-notes.ensures.text c.args.limits.now told c.args.header.now x)

pub returns-in_err-notes-clause-some : goal.returns-in_err-notes-clause-some
returns-in_err-notes-clause-some g c =
    by_exit (λ (r : Result (List Claim) ReadCertError). (text : List ℕ) × TextAnswers (λ (m : List Claim). c.args.header.now) (λ (m : List Claim). m)
    c.args.repo.now c.args.limits.now text r)
    c.from_residual.result c.in_err-notes.field-0.0 c.from_residual.ensures.1
    (c.in_err-notes.ensures.some c.args.limits.now c.args.header.now c.requires.start)

pub returns-in_err-notes-clause-large : goal.returns-in_err-notes-clause-large
returns-in_err-notes-clause-large g c =
    let some = c.in_err-notes.ensures.some c.args.limits.now c.args.header.now c.requires.start in
    by_exit (λ (r : Result (List Claim) ReadCertError). IfErr r (LargeCause c.args.repo.now c.args.limits.now)) c.from_residual.result
    c.in_err-notes.field-0.0 c.from_residual.ensures.1
    (some-large (λ (m : List Claim). c.args.header.now) (λ (m : List Claim). m) c.args.repo.now c.args.limits.now some.0 (Err c.in_err-notes.field-0.0) some.1)

pub returns-clause-text : goal.returns-clause-text
returns-clause-text g c = λ told x.
    claimed-told c.args.repo.now c.args.limits.now c.args.header.now told c.in_ok-notes.notes c.into_claims.result c.into_claims.ensures
    (c.in_ok-notes.ensures.text c.args.limits.now told c.args.header.now x)

pub returns-clause-some : goal.returns-clause-some
returns-clause-some g c =
    let some = c.in_ok-notes.ensures.some c.args.limits.now c.args.header.now c.requires.start in
    (some.0, claimed c.args.repo.now c.args.limits.now c.args.header.now some.0 c.in_ok-notes.notes c.into_claims.result c.into_claims.ensures some.1)
