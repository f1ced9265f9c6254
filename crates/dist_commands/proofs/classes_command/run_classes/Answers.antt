use Rattle.std.proofs.Common.{inr}
use Rattle.dist_commands.proofs.classes_command.run_classes.Goals as goal

pub returns-in-Ok-told-clause-answers : goal.returns-in-Ok-told-clause-answers
returns-in-Ok-told-clause-answers g c =
    inr (c.in-Ok.repository, c.in-Ok.ensures.goes, c.in-Ok-told.ensures (g.D.Desk.view c.args.desk.now).files)
