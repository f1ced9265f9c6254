use Rattle.dist_cert.specs.declared.records.CertRecord.TheVariants.{Refuted}
use Rattle.dist_line_write.proofs.OneLine.{no-memory}
use Rattle.dist_line_write.proofs.asker.put_refuted.Goals as goal

pub returns-in_err-numbers-clause-err : goal.returns-in_err-numbers-clause-err
returns-in_err-numbers-clause-err g c =
    no-memory c.file_grows.ensures.begin c.args.writer.now (Refuted c.args.hints.now) (g.D.Desk.view c.args.desk.now) c.from_residual.result
    c.from_residual.ensures.1
