use Rattle.dist_commands.specs.Health.{Judges, ListStages}
use Rattle.dist_commands.proofs.Due.{ok_more, err_more}
use Rattle.dist_commands.proofs.HealthStages.{packages_answers, packages_due}
use Rattle.dist_commands.proofs.health_command.run_health.Goals as goal

pub returns-in-Ok-clause-answers : goal.returns-in-Ok-clause-answers
returns-in-Ok-clause-answers g c =
    ok_more c.judge_list-answer.result _ _ (λ answer. packages_answers
    (λ files repository. ListStages files c.args.limits.now repository c.args.files.now.list.now (Judges files repository))
    (g.D.Desk.view c.args.desk.now) (g.D.Desk.view c.read_repository.new.desk) c.args.limits.now
    c.args.files.now.packages.now c.in-Ok.repository answer.status answer.text.items c.in-Ok.ensures.only_reads c.in-Ok.ensures.goes)
    c.judge_list-answer.ensures.answers

pub returns-in-Ok-clause-due : goal.returns-in-Ok-clause-due
returns-in-Ok-clause-due g c =
    err_more c.judge_list-answer.result _ _ (λ refusal. packages_due
    (λ files repository. ListStages files c.args.limits.now repository c.args.files.now.list.now (Judges files repository))
    (g.D.Desk.view c.args.desk.now) (g.D.Desk.view c.read_repository.new.desk) (g.D.Desk.view c.judge_list-answer.new.desk) c.args.limits.now
    c.args.files.now.packages.now c.in-Ok.repository refusal c.in-Ok.ensures.only_reads c.judge_list-answer.ensures.only_reads c.in-Ok.ensures.goes)
    c.judge_list-answer.ensures.due
