use Rattle.std.proofs.Common.{ℕ, List, Ok, inr, refl, subst}
use Rattle.dist_outside.specs.DeskView.{DeskView}
use Rattle.dist_outside.specs.Files.{file_bytes}
use Rattle.dist_explain.specs.Verdicts.{ExplanationAnswers, VerdictMeans}
use Rattle.dist_judge.specs.Judging.{OfText}
use Rattle.dist_explain.specs.declared.verdict.ExplainVerdict.{ExplainVerdict}
use Rattle.dist_cert.specs.declared.faults.ReadCertError.TheVariants.{Bad}
use Rattle.dist_commands.specs.CheckExplain.{ExplanationReads}
use Rattle.dist_commands.proofs.CheckGivenUp.{check_due}
use Rattle.dist_commands.proofs.accepting.accept_explanation.Goals as goal

pub returns-in-Ok-Accepted-clause-goes : goal.returns-in-Ok-Accepted-clause-goes
returns-in-Ok-Accepted-clause-goes g c =
    let desk : DeskView = g.D.Desk.view c.args.desk.now in
    record {
      present = c.in-Ok-Accepted.ensures.present;
      answers = subst (λ (v : ExplainVerdict). OfText (file_bytes desk.files c.args.cert.now)
          (λ text. ExplanationAnswers c.args.repository.now c.args.limits.now text (Ok v))) c.in-Ok-Accepted.field-0-is c.in-Ok-Accepted.ensures.text;
      some = subst (λ (v : ExplainVerdict). (text : List ℕ) × ExplanationAnswers c.args.repository.now c.args.limits.now text (Ok v))
          c.in-Ok-Accepted.field-0-is c.in-Ok-Accepted.ensures.some;
    }

pub returns-in-Ok-Accepted-clause-means : goal.returns-in-Ok-Accepted-clause-means
returns-in-Ok-Accepted-clause-means g c =
    subst (VerdictMeans c.args.repository.now) c.in-Ok-Accepted.field-0-is c.in-Ok-Accepted.ensures.means

pub returns-in-Ok-Refused-clause-due : goal.returns-in-Ok-Refused-clause-due
returns-in-Ok-Refused-clause-due g c =
    let desk : DeskView = g.D.Desk.view c.args.desk.now in
    inr (inr (
      Bad c.in-Ok-Refused.fault,
      record {
        present = c.in-Ok-Refused.ensures.present;
        answers = subst (λ (v : ExplainVerdict). OfText (file_bytes desk.files c.args.cert.now)
            (λ text. ExplanationAnswers c.args.repository.now c.args.limits.now text (Ok v))) c.in-Ok-Refused.field-0-is c.in-Ok-Refused.ensures.text;
        some = subst (λ (v : ExplainVerdict). (text : List ℕ) × ExplanationAnswers c.args.repository.now c.args.limits.now text (Ok v))
            c.in-Ok-Refused.field-0-is c.in-Ok-Refused.ensures.some;
      },
      refl,
    ))

pub returns-in-Err-clause-due : goal.returns-in-Err-clause-due
returns-in-Err-clause-due g c =
    rw c.refusal_of.ensures (check_due (ExplanationReads c.args.repository.now c.args.limits.now) (g.D.Desk.view c.args.desk.now)
    (g.D.Desk.view c.check_explained.new.desk)
    c.args.cert.now c.in-Err.error c.in-Err.ensures.present c.in-Err.ensures.text c.in-Err.ensures.some c.in-Err.ensures.cause)
