use Rattle.dist_commands.specs.Stages.{answered}
use Rattle.dist_commands.proofs.HealthStages.{list_answers, list_due}
use Rattle.dist_commands.proofs.health_command.judge_list.Goals as goal

pub returns-in-Ok-told-clause-answers : goal.returns-in-Ok-told-clause-answers
returns-in-Ok-told-clause-answers g c =
    list_answers (g.D.Desk.view c.args.desk.now).files c.args.limits.now c.args.repository.now c.args.list.now c.in-Ok.members
    (answered (g.D.Desk.view c.args.desk.now).files c.in-Ok-told.answer.status c.in-Ok-told.answer.text.items)
    c.in-Ok.ensures.goes (c.in-Ok-told.ensures (g.D.Desk.view c.args.desk.now).files)

pub returns-in-Err-clause-due : goal.returns-in-Err-clause-due
returns-in-Err-clause-due g c =
    list_due c.args.limits.now c.args.repository.now c.args.list.now (g.D.Desk.view c.args.desk.now) (g.D.Desk.view c.read_members.new.desk) c.in-Err.refusal
    c.in-Err.ensures.due
