use Rattle.std.proofs.Common.{◌∙◌, Result}
use Rattle.dist_outside.specs.DeskView.{DeskView}
use Rattle.dist_outside.specs.declared.trouble.WorkError.{WorkError}
use Rattle.dist_line_write.specs.ScriptLaws.{by-exit}
use Rattle.dist_inquiry.specs.Inquiring.{InquiryAnswers}
use Rattle.dist_inquiry.proofs.WrittenFile.{IsDone, file-done, file-stopped}
use Rattle.dist_inquiry.proofs.file.write_inquiry.Goals as goal

pub returns-in_err-done : goal.returns-in_err-done
returns-in_err-done g c =
    let old : DeskView = g.D.Desk.view c.args.desk.now in
    let mid : DeskView = g.D.Desk.view c.create_file.new.desk in
    let late : DeskView = g.D.Desk.view c.put_all-done.new.desk in
    let new : DeskView = g.D.Desk.view c.close_file-closed.new.desk in
    let file = g.S.Inquiring.file c.args.search.now in
    let Keeps = g.S.Inquiring.keeps c.args.search.now in
    let asks = g.S.Inquiring.asks c.args.search.now in
    let Told = g.S.Inquiring.told c.args.search.now c.put_all-done.new.search in
    let done : IsDone c.args.name.now old mid late new
    = record {
      more = c.file_holds.ensures.more;
      closing = c.file_holds.ensures.closed;
      created = c.in_ok-create_file.ensures.ok;
      closed = c.close_file-closed.ensures.closed;
    } in
    by-exit (λ (r : Result (Unit {0}) WorkError). InquiryAnswers file Keeps asks Told c.args.numbers.now c.args.inquirer.now c.args.name.now old new r)
    c.from_residual-in_err-done.result c.in_err-done.field-0.0 c.from_residual-in_err-done.ensures.1
    (file-stopped file Keeps asks Told c.args.numbers.now c.args.inquirer.now c.args.name.now old mid late new c.in_err-done.field-0.0 done
    (c.in_err-done.ensures.err c.args.numbers.now (c.deref.ensures.value ∙ c.in_ok-line.ensures.value)))

pub returns : goal.returns
returns g c =
    let old : DeskView = g.D.Desk.view c.args.desk.now in
    let mid : DeskView = g.D.Desk.view c.create_file.new.desk in
    let late : DeskView = g.D.Desk.view c.put_all-done.new.desk in
    let new : DeskView = g.D.Desk.view c.close_file-closed.new.desk in
    let file = g.S.Inquiring.file c.args.search.now in
    let Keeps = g.S.Inquiring.keeps c.args.search.now in
    let asks = g.S.Inquiring.asks c.args.search.now in
    let Told = g.S.Inquiring.told c.args.search.now c.put_all-done.new.search in
    let done : IsDone c.args.name.now old mid late new
    = record {
      more = c.file_holds.ensures.more;
      closing = c.file_holds.ensures.closed;
      created = c.in_ok-create_file.ensures.ok;
      closed = c.close_file-closed.ensures.closed;
    } in
    file-done file Keeps asks Told c.args.numbers.now c.args.inquirer.now c.args.name.now old mid late new c.close_file-closed.result done
    (c.in_ok-done.ensures.ok c.args.numbers.now (c.deref.ensures.value ∙ c.in_ok-line.ensures.value)) c.close_file-closed.ensures.cause
