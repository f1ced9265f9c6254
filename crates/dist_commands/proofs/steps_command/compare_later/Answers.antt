use Rattle.dist_commands.specs.Steps.{TellsLater}
use Rattle.dist_commands.proofs.HealthStages.{packages_unread}
use Rattle.dist_commands.proofs.StepsStages.{later-answers, newest-some}
use Rattle.dist_commands.proofs.steps_command.compare_later.Goals as goal

pub tell_later-told-requires-clause-flat : goal.tell_later-told-requires-clause-flat
tell_later-told-requires-clause-flat g c = c.in-Ok.ensures.goes.2.flat

pub tell_later-told-requires-clause-some : goal.tell_later-told-requires-clause-some
tell_later-told-requires-clause-some g c =
    newest-some (g.D.Desk.view c.args.desk.now).files c.args.limits.now c.args.later.now c.in-Ok.newest c.in-Ok.ensures.goes

pub returns-in-Ok-told-clause-answers : goal.returns-in-Ok-told-clause-answers
returns-in-Ok-told-clause-answers g c =
    later-answers (g.D.Desk.view c.args.desk.now).files c.args.limits.now c.args.later.now c.args.space.now c.in-Ok.newest c.in-Ok-told.answer.status
    c.in-Ok-told.answer.text.items c.in-Ok.ensures.goes c.in-Ok-told.ensures

pub returns-in-Err-clause-due : goal.returns-in-Err-clause-due
returns-in-Err-clause-due g c =
    packages_unread (λ files l. TellsLater files c.args.space.now l) (g.D.Desk.view c.args.desk.now) (g.D.Desk.view c.read_newest.new.desk)
    c.args.limits.now c.args.later.now c.in-Err.refusal c.in-Err.ensures.due
