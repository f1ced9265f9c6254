use Rattle.std.proofs.Common.{None}
use Rattle.dist_commands.specs.Health.{ListStage}
use Rattle.dist_commands.proofs.Due.{ok_more}
use Rattle.dist_commands.proofs.HealthStages.{after_text_goes, after_text_due}
use Rattle.dist_commands.proofs.health_command.read_members.Goals as goal

pub returns-in-Ok-clause-goes : goal.returns-in-Ok-clause-goes
returns-in-Ok-clause-goes g c =
    after_text_goes (λ files text. ListStage files c.args.repository.now.packages text) c.members_of-members.result (g.D.Desk.view c.args.desk.now).files
    c.args.name.now c.args.limits.now.bytes
    c.in-Ok.text.items c.deref.result.now c.deref.ensures.value c.in-Ok.ensures.goes c.members_of-members.ensures.goes

pub returns-in-Ok-clause-due : goal.returns-in-Ok-clause-due
returns-in-Ok-clause-due g c =
    after_text_due (λ files text. ListStage files c.args.repository.now.packages text) c.members_of-members.result (g.D.Desk.view c.args.desk.now)
    (g.D.Desk.view c.text_of.new.desk) c.args.name.now c.args.limits.now.bytes
    c.in-Ok.text.items c.deref.result.now c.deref.ensures.value c.in-Ok.ensures.goes c.members_of-members.ensures.given_up

pub returns-in-Ok-clause-one_each : goal.returns-in-Ok-clause-one_each
returns-in-Ok-clause-one_each g c = ok_more c.members_of-members.result _ _ (λ members has. (has None).one_each) c.members_of-members.ensures.goes
