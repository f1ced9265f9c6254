use Rattle.std.proofs.Common.{refl}
use Rattle.dist_commands.proofs.CertificateStages.{told_repair}
use Rattle.dist_commands.proofs.check_repair_command.judge_repair.Goals as goal

pub tell_repair-told-requires : goal.tell_repair-told-requires
tell_repair-told-requires g c = (c.in-Ok.accepted.header, refl, c.in-Ok.ensures.says)

pub returns-in-Ok-told-clause-answers : goal.returns-in-Ok-told-clause-answers
returns-in-Ok-told-clause-answers g c =
    told_repair (g.D.Desk.view c.args.desk.now).files c.args.limits.now c.args.cert.now c.args.space.now c.in-Ok.accepted.header
    c.in-Ok.accepted.repair c.in-Ok-told.answer.status c.in-Ok-told.answer.text.items c.in-Ok.ensures.goes
    c.in-Ok.ensures.says c.in-Ok-told.ensures.status c.in-Ok-told.ensures.text
