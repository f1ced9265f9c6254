-- A text has one verdict, which is the answer of the check.
use Rattle.std.proofs.Common.{◌≡◌, ℕ, List, Ok, ap, sym, ◌∙◌}
use Rattle.dist_outside.specs.declared.limits.Limits.{Limits}
use Rattle.dist_repo.specs.PackageList.{PackageList}
use Rattle.dist_cert.specs.Accepted.{claims_in}
use Rattle.dist_cert.specs.ClearFormsLaws.{FormsAreClear}
use Rattle.dist_judge.specs.ClearKindLaws.{BasesAreOne}
use Rattle.dist_judge.specs.VerdictLaws.{accepted_once, never_refused, refused_once, stops_refused}
use Rattle.dist_check.specs.declared.verdict.Verdict.{Verdict}
use Rattle.dist_check.specs.declared.verdict.Verdict.TheVariants as verdicts
use Rattle.dist_check.specs.Answers.{Answers, IsVerdict}
use Rattle.dist_subject.specs.Certificates.{certificates_of}
use Rattle.dist_check.proofs.ClearKind.{clear-kind}

-- an answer is the verdict
pub right : FormsAreClear → (r : PackageList) (limits : Limits) (text : List ℕ) (verdict : Verdict) → Answers r limits text (Ok verdict)
    → IsVerdict r limits text verdict
right clear r limits text (verdicts.Accepted h made) answer = (answer.basis, answer.is_basis, (answer.steps, answer.accepted, answer.claims))
right clear r limits text (verdicts.Refused fault) answer = stops_refused (certificates_of r) (clear-kind clear r) limits text fault answer

-- two verdicts of a text are the same
pub one : FormsAreClear → (r : PackageList) → BasesAreOne (certificates_of r) → (limits : Limits) (text : List ℕ) (verdict other : Verdict)
    → IsVerdict r limits text verdict → IsVerdict r limits text other → verdict ≡ other
one clear r same limits text (verdicts.Accepted h made) (verdicts.Accepted g claims) (basis, is, (steps, whole, all)) (other, also, (others, second, some)) =
    let both = accepted_once (certificates_of r) (clear-kind clear r) same limits text h g steps others (basis, is, whole) (other, also, second) in
    ap (λ k. verdicts.Accepted k made) both.0 ∙ ap (λ k. verdicts.Accepted g k) (all ∙ ap claims_in both.1 ∙ sym some)
one clear r same limits text (verdicts.Accepted h made) (verdicts.Refused fault) (basis, is, (steps, whole, all)) y =
    absurd (never_refused (certificates_of r) (clear-kind clear r) same limits text h steps fault (basis, is, whole) y)
one clear r same limits text (verdicts.Refused fault) (verdicts.Accepted h made) x (basis, is, (steps, whole, all)) =
    absurd (never_refused (certificates_of r) (clear-kind clear r) same limits text h steps fault (basis, is, whole) x)
one clear r same limits text (verdicts.Refused fault) (verdicts.Refused other) x y =
    ap (λ k. verdicts.Refused k) (refused_once (certificates_of r) (clear-kind clear r) same limits text fault other x y)
