use Rattle.dist_line_write.specs.Words.{closing_line}
use Rattle.dist_line_write.proofs.OneLine.{no-memory}
use Rattle.dist_line_write.proofs.asker.put_answer.Goals as goal

pub returns-in_err-step-clause-err : goal.returns-in_err-step-clause-err
returns-in_err-step-clause-err g c =
    no-memory c.file_grows.ensures.begin c.args.writer.now (closing_line c.args.answer.now) (g.D.Desk.view c.args.desk.now) c.from_residual.result
    c.from_residual.ensures.1
