use Rattle.dist_commands.proofs.CertificateStages.{told_explanation}
use Rattle.dist_commands.proofs.check_explain_command.judge_explanation.Goals as goal

pub returns-in-Ok-told-clause-answers : goal.returns-in-Ok-told-clause-answers
returns-in-Ok-told-clause-answers g c =
    told_explanation (g.D.Desk.view c.args.desk.now).files c.args.limits.now c.args.cert.now c.args.repository.now c.in-Ok.accepted.header
    c.in-Ok.accepted.explained c.in-Ok-told.answer.status c.in-Ok-told.answer.text.items c.in-Ok.ensures.goes
    c.in-Ok.ensures.means c.in-Ok-told.ensures.status c.in-Ok-told.ensures.text
