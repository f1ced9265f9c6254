use Rattle.std.proofs.Common.{IfErr, OnOk, ap, subst}
use Rattle.dist_outside.specs.DeskView.{DeskView}
use Rattle.dist_cert.specs.Form.{header_text}
use Rattle.dist_cert.specs.Writing.{WriterView}
use Rattle.dist_line_write.specs.Asking.{AskerView}
use Rattle.dist_line_write.specs.Script.{FirstMore, FirstStops}
use Rattle.dist_line_write.proofs.FirstLine.{first-more, first-stops}
use Rattle.dist_line_write.proofs.asker.Asker.put_header.Goals as goal

pub returns-clause-ok : goal.returns-clause-ok
returns-clause-ok g c =
    let old : DeskView = g.D.Desk.view c.args.desk.now in
    let new : DeskView = g.D.Desk.view c.put_header.new.desk in
    subst (λ (w : WriterView). OnOk c.put_header.result (FirstMore w c.put_header.new.self (header_text c.args.header.now)))
    (ap (λ (v : AskerView). v.writer) c.self.view_is)
    (first-more c.self.inside.writer c.put_header.new.self (header_text c.args.header.now) old new c.put_header.result c.put_header.ensures.answers
    c.put_header.ensures.counted)

pub returns-clause-err : goal.returns-clause-err
returns-clause-err g c =
    let old : DeskView = g.D.Desk.view c.args.desk.now in
    let new : DeskView = g.D.Desk.view c.put_header.new.desk in
    subst (λ (w : WriterView). IfErr c.put_header.result (FirstStops w (header_text c.args.header.now) old new)) (ap (λ (v : AskerView). v.writer)
    c.self.view_is)
    (first-stops c.file_grows.ensures.begin c.self.inside.writer (header_text c.args.header.now) old new c.put_header.result c.put_header.ensures.answers
    c.put_header.ensures.nothing c.put_header.ensures.front)
