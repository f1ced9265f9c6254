use Rattle.std.proofs.Common.{◌≤◌, false, IfOk, List, Result, Ok, Err, arith, codes, length, refl, sym, subst}
use Rattle.dist_base.specs.declared.TheConstants.{MAX_PACKAGES}
use Rattle.dist_cert.specs.declared.faults.ReadCertError.TheVariants.{Work}
use Rattle.dist_cert.specs.declared.records.Claim.{Claim}
use Rattle.dist_outside.specs.DeskView.{DeskView}
use Rattle.dist_outside.specs.Files.{IsNotWriting, file_bytes}
use Rattle.dist_outside.specs.Memory.{DeskState, desk_view}
use Rattle.dist_outside.specs.declared.trouble.WorkError.{WorkError}
use Rattle.dist_outside.specs.declared.trouble.WorkError.TheVariants.{NoMemory}
use Rattle.dist_subject.specs.Limited.{PassesFirst}
use Rattle.dist_check.specs.Answers.{Answers, VerdictMeans}
use Rattle.dist_judge.specs.Causes.{TextCause}
use Rattle.dist_judge.specs.Judging.{OfText}
use Rattle.dist_check.specs.declared.verdict.Verdict.{Verdict}
use Rattle.dist_trial.specs.Trial.{Tells}
use Rattle.dist_trial.proofs.Archives.{by-exit}
use Rattle.dist_trial.proofs.Sweeps.{GivesClaims, accepted, few-claims, not-large, not-refused, sweep-stops, tells-any, tells-memory, tells-none}
use Rattle.dist_trial.proofs.claiming.claims_of.Goals as goal

pub write-requires-clause-idle : goal.write-requires-clause-idle
write-requires-clause-idle c = subst (λ (s : DeskState). IsNotWriting s.mode) (sym c.in_ok-desk.ensures) tt

pub write-requires-clause-size : goal.write-requires-clause-size
write-requires-clause-size c = c.requires.size

pub write-requires-clause-limits : goal.write-requires-clause-limits
write-requires-clause-limits c = c.requires.limits

pub returns-in_err-desk-clause-answers : goal.returns-in_err-desk-clause-answers
returns-in_err-desk-clause-answers c =
    by-exit (GivesClaims c.args.repo.now c.args.kind c.args.limits.now) c.from_residual.result NoMemory c.from_residual.ensures.1 tt

pub returns-in-Err-clause-answers : goal.returns-in-Err-clause-answers
returns-in-Err-clause-answers c =
    subst (λ (e : WorkError). GivesClaims c.args.repo.now c.args.kind c.args.limits.now (Err e)) (sym c.in_memory.ensures)
    (sweep-stops c.args.repo.now c.args.kind c.args.limits.now (codes "certificate") (desk_view c.in_ok-desk.desk) (desk_view c.write.new.desk)
    c.in-Err.error c.in-Err.ensures.answers)

pub check-requires-clause-idle : goal.check-requires-clause-idle
check-requires-clause-idle c = subst IsNotWriting (sym c.in-Ok.ensures.answers.1.mode_is) tt

pub check-requires-clause-size : goal.check-requires-clause-size
check-requires-clause-size c = c.requires.size

pub check-requires-clause-limits : goal.check-requires-clause-limits
check-requires-clause-limits c = c.requires.limits

pub new-requires : goal.new-requires
new-requires c = omega arith

pub same-desk : goal.same-desk
same-desk c = refl

pub returns-in-Ok-Accepted-clause-answers : goal.returns-in-Ok-Accepted-clause-answers
returns-in-Ok-Accepted-clause-answers c =
    let new : DeskView = desk_view c.write.new.desk in
    accepted c.texts_have_one_verdict.ensures.right c.texts_have_one_verdict.ensures.one c.args.repo.now c.args.kind c.args.limits.now (codes "certificate")
    c.in_ok-desk.desk.files (desk_view c.in_ok-desk.desk) new
    c.in-Ok.field-0 c.in-Ok-Accepted.field-0-0 c.in-Ok-Accepted.claims (refl, c.in-Ok.ensures.answers)
    (subst (λ (v : Verdict). OfText (file_bytes new.files (codes "certificate")) (λ text. Answers c.args.repo.now c.args.limits.now text (Ok v)))
    c.in-Ok-Accepted.field-0-is c.in-Ok-Accepted.ensures.text)

pub unreachable-requires : goal.unreachable-requires
unreachable-requires c =
    let new : DeskView = desk_view c.write.new.desk in
    not-refused c.texts_have_one_verdict.ensures.right c.texts_have_one_verdict.ensures.one c.args.repo.now c.args.kind c.args.limits.now (codes "certificate")
    c.in_ok-desk.desk.files (desk_view c.in_ok-desk.desk) new
    c.in-Ok.field-0 c.in-Ok-Refused.field-0-0 (refl, c.in-Ok.ensures.answers)
    (subst (λ (v : Verdict). OfText (file_bytes new.files (codes "certificate")) (λ text. Answers c.args.repo.now c.args.limits.now text (Ok v)))
    c.in-Ok-Refused.field-0-is c.in-Ok-Refused.ensures.text)

pub unreachable-unreachable : goal.unreachable-unreachable
unreachable-unreachable c =
    let new : DeskView = desk_view c.write.new.desk in
    not-refused c.texts_have_one_verdict.ensures.right c.texts_have_one_verdict.ensures.one c.args.repo.now c.args.kind c.args.limits.now (codes "certificate")
    c.in_ok-desk.desk.files (desk_view c.in_ok-desk.desk) new
    c.in-Ok.field-0 c.in-Ok-Refused.field-0-0 (refl, c.in-Ok.ensures.answers)
    (subst (λ (v : Verdict). OfText (file_bytes new.files (codes "certificate")) (λ text. Answers c.args.repo.now c.args.limits.now text (Ok v)))
    c.in-Ok-Refused.field-0-is c.in-Ok-Refused.ensures.text)

pub unreachable-requires-in-Err-TooLarge : goal.unreachable-requires-in-Err-TooLarge
unreachable-requires-in-Err-TooLarge c =
    let new : DeskView = desk_view c.write.new.desk in
    not-large c.texts_have_one_answer.ensures c.args.repo.now c.args.kind c.args.limits.now (codes "certificate") c.in_ok-desk.desk.files
    (desk_view c.in_ok-desk.desk) new c.in-Ok.field-0 c.in-Err-TooLarge.field-0-0 c.keeps_invariant.ensures.in_order (refl, c.in-Ok.ensures.answers)
    (subst (λ (e : WorkError). OfText (file_bytes new.files (codes "certificate")) (λ text. Answers c.args.repo.now c.args.limits.now text (Err e)))
    c.in-Err-TooLarge.field-0-is c.in-Err-TooLarge.ensures.text)

pub unreachable-unreachable-in-Err-TooLarge : goal.unreachable-unreachable-in-Err-TooLarge
unreachable-unreachable-in-Err-TooLarge c =
    let new : DeskView = desk_view c.write.new.desk in
    not-large c.texts_have_one_answer.ensures c.args.repo.now c.args.kind c.args.limits.now (codes "certificate") c.in_ok-desk.desk.files
    (desk_view c.in_ok-desk.desk) new c.in-Ok.field-0 c.in-Err-TooLarge.field-0-0 c.keeps_invariant.ensures.in_order (refl, c.in-Ok.ensures.answers)
    (subst (λ (e : WorkError). OfText (file_bytes new.files (codes "certificate")) (λ text. Answers c.args.repo.now c.args.limits.now text (Err e)))
    c.in-Err-TooLarge.field-0-is c.in-Err-TooLarge.ensures.text)

pub unreachable-requires-in-Err-WriteFault : goal.unreachable-requires-in-Err-WriteFault
unreachable-requires-in-Err-WriteFault c =
    subst (λ (e : WorkError). TextCause (desk_view c.write.new.desk) (desk_view c.check.new.desk) (Work e)) c.in-Err-WriteFault.field-0-is
    c.in-Err-WriteFault.ensures.cause

pub unreachable-unreachable-in-Err-WriteFault : goal.unreachable-unreachable-in-Err-WriteFault
unreachable-unreachable-in-Err-WriteFault c =
    subst (λ (e : WorkError). TextCause (desk_view c.write.new.desk) (desk_view c.check.new.desk) (Work e)) c.in-Err-WriteFault.field-0-is
    c.in-Err-WriteFault.ensures.cause

pub returns-in_err-desk-clause-first : goal.returns-in_err-desk-clause-first
returns-in_err-desk-clause-first c =
    let Passes = PassesFirst c.args.repo.now c.args.kind false c.args.limits.now in
    by-exit (λ (r : Result (List Claim) WorkError). Tells Passes r) c.from_residual.result NoMemory c.from_residual.ensures.1 (tells-none Passes)

pub returns-in-Err-clause-first : goal.returns-in-Err-clause-first
returns-in-Err-clause-first c =
    let Passes = PassesFirst c.args.repo.now c.args.kind false c.args.limits.now in
    subst (λ (e : WorkError). Tells {X = List Claim} Passes (Err e)) (sym c.in_memory.ensures) (tells-memory Passes c.in-Err.error c.in-Err.ensures.first)

pub returns-in-Ok-Accepted-clause-first : goal.returns-in-Ok-Accepted-clause-first
returns-in-Ok-Accepted-clause-first c =
    tells-any (PassesFirst c.args.repo.now c.args.kind false c.args.limits.now) c.in-Ok.field-0 (Ok c.in-Ok-Accepted.claims) c.in-Ok.ensures.first

pub returns-in-Ok-Accepted-clause-few : goal.returns-in-Ok-Accepted-clause-few
returns-in-Ok-Accepted-clause-few c =
    let means = subst (VerdictMeans c.args.repo.now) c.in-Ok-Accepted.field-0-is c.in-Ok-Accepted.ensures.means in
    few-claims c.latest_is_one.ensures.within_size c.args.repo.now c.in-Ok-Accepted.field-0-0.kind c.in-Ok-Accepted.field-0-0.essential
    c.in-Ok-Accepted.claims c.requires.size means.means

pub returns-clause-first : goal.returns-clause-first
returns-clause-first c = tells-none (PassesFirst c.args.repo.now c.args.kind false c.args.limits.now)

pub returns-in_err-desk-clause-few : goal.returns-in_err-desk-clause-few
returns-in_err-desk-clause-few c =
    by-exit (λ (r : Result (List Claim) WorkError). IfOk r (λ made. length made ≤ MAX_PACKAGES)) c.from_residual.result NoMemory c.from_residual.ensures.1 tt
