use Rattle.std.proofs.Common.{false}
use Rattle.dist_commands.specs.SpaceStage.{SpaceStage}
use Rattle.dist_commands.specs.Stages.{Then}
use Rattle.dist_commands.proofs.HealthStages.{packages_unread}
use Rattle.dist_commands.proofs.StepsStages.{space-due, space-kept}
use Rattle.dist_commands.proofs.spaces.read_space.Goals as goal

pub returns-in-Ok-clause-goes : goal.returns-in-Ok-clause-goes
returns-in-Ok-clause-goes g c =
    space-kept c.args.limits.now c.args.packages.now c.in-Ok.repository (g.D.Desk.view c.args.desk.now).files c.space_of_file.result
    c.in-Ok.ensures.goes c.space_of_file.ensures.goes

pub returns-in-Ok-clause-due : goal.returns-in-Ok-clause-due
returns-in-Ok-clause-due g c =
    space-due c.args.limits.now c.args.packages.now c.in-Ok.repository (g.D.Desk.view c.args.desk.now) (g.D.Desk.view c.read_repository.new.desk)
    c.space_of_file.result c.in-Ok.ensures.goes c.space_of_file.ensures.given_up

pub returns-in-Err-clause-due : goal.returns-in-Err-clause-due
returns-in-Err-clause-due g c =
    packages_unread (λ files r. Then (SpaceStage files c.args.limits.now false r) (λ _ ending. ⊥)) (g.D.Desk.view c.args.desk.now)
    (g.D.Desk.view c.read_repository.new.desk) c.args.limits.now c.args.packages.now c.in-Err.refusal c.in-Err.ensures.due
