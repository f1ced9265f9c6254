use Rattle.std.proofs.Common.{ℕ, List, Ok, inr, refl, subst}
use Rattle.dist_outside.specs.DeskView.{DeskView}
use Rattle.dist_outside.specs.Files.{file_bytes}
use Rattle.dist_check.specs.Answers.{Answers}
use Rattle.dist_judge.specs.Judging.{OfText}
use Rattle.dist_cert.specs.declared.faults.ReadCertError.TheVariants.{Bad}
use Rattle.dist_check.specs.declared.verdict.Verdict.{Verdict}
use Rattle.dist_commands.specs.Check.{CertificateAnswers}
use Rattle.dist_commands.proofs.CheckGivenUp.{check_due}
use Rattle.dist_commands.proofs.accepting.accept.Goals as goal

pub returns-in-Refused-clause-due : goal.returns-in-Refused-clause-due
returns-in-Refused-clause-due g c =
    let desk : DeskView = g.D.Desk.view c.args.desk.now in
    inr (inr (
      Bad c.in-Refused.fault,
      record {
        present = c.in-Ok.ensures.present;
        answers = subst (λ (v : Verdict). OfText (file_bytes desk.files c.args.cert.now) (λ text. Answers c.args.repository.now c.args.limits.now text (Ok v)))
            c.in-Refused.is c.in-Ok.ensures.text;
        some = subst (λ (v : Verdict). (text : List ℕ) × Answers c.args.repository.now c.args.limits.now text (Ok v)) c.in-Refused.is c.in-Ok.ensures.some;
      },
      refl,
    ))

pub returns-in-Err-clause-due : goal.returns-in-Err-clause-due
returns-in-Err-clause-due g c =
    rw c.refusal_of.ensures (check_due (CertificateAnswers c.args.repository.now c.args.limits.now) (g.D.Desk.view c.args.desk.now)
    (g.D.Desk.view c.check_with_space.new.desk) c.args.cert.now c.in-Err.error c.in-Err.ensures.present c.in-Err.ensures.text c.in-Err.ensures.some
    c.in-Err.ensures.cause)
