use Rattle.std.proofs.Common.{Result, IfErr}
use Rattle.dist_outside.specs.DeskView.{DeskView}
use Rattle.dist_outside.specs.declared.trouble.WorkError.{WorkError}
use Rattle.dist_outside.specs.declared.trouble.WorkError.TheVariants.{NoMemory}
use Rattle.dist_line_write.specs.ScriptLaws.{by-exit}
use Rattle.dist_sweep.specs.Asking.{AskStops}
use Rattle.dist_sweep.specs.ScriptLaws.{stops-for-memory}
use Rattle.dist_sweep.specs.declared.asking.Reply.{Reply}
use Rattle.dist_challenge.specs.GroupPrivate.{together}
use Rattle.dist_challenge.proofs.asking.ask_both.Goals as goal

pub returns-in_err-question-clause-err : goal.returns-in_err-question-clause-err
returns-in_err-question-clause-err g c =
    let old : DeskView = g.D.Desk.view c.args.desk.now in
    by-exit (λ (r : Result Reply WorkError). IfErr r (AskStops c.args.asker.now (together c.args.variable c.args.other) old old)) c.from_residual.result
    NoMemory
    c.from_residual.ensures.1
    (λ s before at next. stops-for-memory s before c.args.asker.now.writer old old at.writer (c.file_grows.ensures.begin old))
