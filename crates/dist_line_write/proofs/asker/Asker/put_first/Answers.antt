use Rattle.std.proofs.Common.{IfErr, OnOk, ap, subst}
use Rattle.dist_outside.specs.DeskView.{DeskView}
use Rattle.dist_cert.specs.Writing.{WriterView}
use Rattle.dist_line_write.specs.Asking.{AskerView}
use Rattle.dist_line_write.specs.Script.{FirstMore, FirstStops}
use Rattle.dist_line_write.proofs.FirstLine.{first-more, first-stops}
use Rattle.dist_line_write.proofs.asker.Asker.put_first.Goals as goal

pub returns-clause-ok : goal.returns-clause-ok
returns-clause-ok g c =
    let old : DeskView = g.D.Desk.view c.args.desk.now in
    let new : DeskView = g.D.Desk.view c.put_first.new.desk in
    subst (λ (w : WriterView). OnOk c.put_first.result (FirstMore w c.put_first.new.self c.args.line.now))
    (ap (λ (v : AskerView). v.writer) c.self.view_is)
    (first-more c.self.inside.writer c.put_first.new.self c.args.line.now old new c.put_first.result c.put_first.ensures.answers
    c.put_first.ensures.counted)

pub returns-clause-err : goal.returns-clause-err
returns-clause-err g c =
    let old : DeskView = g.D.Desk.view c.args.desk.now in
    let new : DeskView = g.D.Desk.view c.put_first.new.desk in
    subst (λ (w : WriterView). IfErr c.put_first.result (FirstStops w c.args.line.now old new)) (ap (λ (v : AskerView). v.writer) c.self.view_is)
    (first-stops c.file_grows.ensures.begin c.self.inside.writer c.args.line.now old new c.put_first.result c.put_first.ensures.answers
    c.put_first.ensures.nothing c.put_first.ensures.front)
