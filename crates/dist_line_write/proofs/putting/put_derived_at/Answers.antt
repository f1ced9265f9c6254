use Rattle.dist_solver.specs.Derived.{line_at}
use Rattle.dist_line_write.specs.Words.{derived_line}
use Rattle.dist_line_write.proofs.OneLine.{no-memory}
use Rattle.dist_line_write.proofs.putting.put_derived_at.Goals as goal

pub returns-in_err-step-clause-err : goal.returns-in_err-step-clause-err
returns-in_err-step-clause-err g c =
    no-memory c.file_grows.ensures.begin c.args.writer.now (derived_line c.args.log.now.clauses (line_at c.args.derived.now c.args.place))
    (g.D.Desk.view c.args.desk.now) c.from_residual.result c.from_residual.ensures.1
