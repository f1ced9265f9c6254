use Rattle.dist_commands.proofs.CertificateStages.{reported}
use Rattle.dist_commands.proofs.check_command.judge_certificate.Goals as goal

pub returns-in-Ok-told-clause-answers : goal.returns-in-Ok-told-clause-answers
returns-in-Ok-told-clause-answers g c =
    reported (g.D.Desk.view c.args.desk.now).files c.args.limits.now c.args.cert.now c.args.repository.now c.in-Ok.accepted.header c.in-Ok.accepted.claims
    c.in-Ok-told.answer.status c.in-Ok-told.answer.text.items c.in-Ok.ensures.goes c.in-Ok.ensures.means c.in-Ok-told.ensures.status
    c.in-Ok-told.ensures.text
