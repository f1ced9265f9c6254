use Rattle.std.proofs.Common.{None}
use Rattle.dist_commands.proofs.Due.{ok_more}
use Rattle.dist_commands.specs.RepositoryStage.{RepositoryStage}
use Rattle.dist_commands.proofs.HealthStages.{after_text_goes, after_text_due}
use Rattle.dist_commands.proofs.files.read_repository.Goals as goal

pub returns-in-Ok-clause-goes : goal.returns-in-Ok-clause-goes
returns-in-Ok-clause-goes g c =
    after_text_goes (λ files text. RepositoryStage files c.args.limits.now.stanzas text) c.repository_of-repository.result (g.D.Desk.view c.args.desk.now).files
    c.args.name.now c.args.limits.now.bytes
    c.in-Ok.text.items c.deref.result.now c.deref.ensures.value c.in-Ok.ensures.goes c.repository_of-repository.ensures.goes

pub returns-in-Ok-clause-due : goal.returns-in-Ok-clause-due
returns-in-Ok-clause-due g c =
    after_text_due (λ files text. RepositoryStage files c.args.limits.now.stanzas text) c.repository_of-repository.result (g.D.Desk.view c.args.desk.now)
    (g.D.Desk.view c.text_of.new.desk) c.args.name.now c.args.limits.now.bytes
    c.in-Ok.text.items c.deref.result.now c.deref.ensures.value c.in-Ok.ensures.goes c.repository_of-repository.ensures.given_up

pub returns-in-Ok-clause-in_order : goal.returns-in-Ok-clause-in_order
returns-in-Ok-clause-in_order g c =
    ok_more c.repository_of-repository.result _ _ (λ repository has. (has None).in_order) c.repository_of-repository.ensures.goes
