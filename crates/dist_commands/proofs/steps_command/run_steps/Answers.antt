use Rattle.dist_commands.specs.PackagesStage.{PackagesStage}
use Rattle.dist_commands.specs.Stages.{Then}
use Rattle.dist_commands.specs.Steps.{TellsLater}
use Rattle.dist_commands.proofs.Due.{ok_more, err_more}
use Rattle.dist_commands.proofs.StepsStages.{space-after, space-answers, space-unread}
use Rattle.dist_commands.proofs.steps_command.run_steps.Goals as goal

pub returns-in-Ok-clause-answers : goal.returns-in-Ok-clause-answers
returns-in-Ok-clause-answers g c =
    ok_more c.compare_later-answer.result _ _ (λ answer. space-answers
    (λ files space. Then (PackagesStage files c.args.limits.now c.args.files.now.later.now) (TellsLater files space))
    c.args.limits.now c.args.files.now.packages.now (g.D.Desk.view c.args.desk.now) (g.D.Desk.view c.read_space.new.desk)
    c.in-Ok.space c.in-Ok.ensures.only_reads c.in-Ok.ensures.goes answer.status answer.text.items)
    c.compare_later-answer.ensures.answers

pub returns-in-Ok-clause-due : goal.returns-in-Ok-clause-due
returns-in-Ok-clause-due g c =
    err_more c.compare_later-answer.result _ _ (λ refusal. space-after
    (λ files space. Then (PackagesStage files c.args.limits.now c.args.files.now.later.now) (TellsLater files space))
    c.args.limits.now c.args.files.now.packages.now (g.D.Desk.view c.args.desk.now) (g.D.Desk.view c.read_space.new.desk)
    c.in-Ok.space c.in-Ok.ensures.only_reads c.in-Ok.ensures.goes
    (g.D.Desk.view c.compare_later-answer.new.desk) refusal c.compare_later-answer.ensures.only_reads) c.compare_later-answer.ensures.due

pub returns-in-Err-clause-due : goal.returns-in-Err-clause-due
returns-in-Err-clause-due g c =
    space-unread (λ files space. Then (PackagesStage files c.args.limits.now c.args.files.now.later.now) (TellsLater files space))
    c.args.limits.now c.args.files.now.packages.now (g.D.Desk.view c.args.desk.now) (g.D.Desk.view c.read_space.new.desk)
    c.in-Err.refusal c.in-Err.ensures.due
