use Rattle.std.proofs.Common.{◌∙◌, List, Result, ap, subst}
use Rattle.dist_outside.specs.DeskView.{DeskView}
use Rattle.dist_outside.specs.declared.trouble.WorkError.{WorkError}
use Rattle.dist_cert.specs.declared.records.Claim.{Claim}
use Rattle.dist_line_write.specs.ScriptLaws.{by-exit}
use Rattle.dist_sweep.specs.Sweeping.{FileAnswers, SweepMore, SweepStops, new_window}
use Rattle.dist_sweep.specs.Window.{WindowView}
use Rattle.dist_sweep.proofs.SweptFile.{IsDone, file-closed, file-refused, file-stopped, file-whole}
use Rattle.dist_sweep.proofs.file.write_file.Goals as goal

pub returns-in_err-create_file : goal.returns-in_err-create_file
returns-in_err-create_file g c =
    let old : DeskView = g.D.Desk.view c.args.desk.now in
    let new : DeskView = g.D.Desk.view c.create_file.new.desk in
    by-exit (λ (r : Result (List Claim)
    WorkError). FileAnswers g.C.Claimant.keeps c.args.header.now c.args.asker.now c.args.claimant.now c.args.name.now old new r)
    c.from_residual-in_err-create_file.result c.in_err-create_file.field-0.0 c.from_residual-in_err-create_file.ensures.1
    (file-refused g.C.Claimant.keeps c.forms_are_clear.ensures c.args.name.now old new c.args.header.now c.args.asker.now c.args.claimant.now
    c.in_err-create_file.field-0.0
    c.in_err-create_file.ensures.err c.in_err-create_file.ensures.cause)

pub returns-in_err-made : goal.returns-in_err-made
returns-in_err-made g c =
    let old : DeskView = g.D.Desk.view c.args.desk.now in
    let mid : DeskView = g.D.Desk.view c.create_file.new.desk in
    let late : DeskView = g.D.Desk.view c.put_all-made.new.desk in
    let new : DeskView = g.D.Desk.view c.close_file-closed.new.desk in
    let done : IsDone c.args.name.now old mid late new
    = record {
      more = c.file_holds.ensures.more;
      closing = c.file_holds.ensures.closed;
      created = c.in_ok-create_file.ensures.ok;
      closed = c.close_file-closed.ensures.closed;
    } in
    by-exit (λ (r : Result (List Claim)
    WorkError). FileAnswers g.C.Claimant.keeps c.args.header.now c.args.asker.now c.args.claimant.now c.args.name.now old new r)
    c.from_residual-in_err-made.result c.in_err-made.field-0.0 c.from_residual-in_err-made.ensures.1
    (file-stopped g.C.Claimant.keeps c.forms_are_clear.ensures c.args.name.now old mid late new c.args.header.now c.args.asker.now c.args.claimant.now
    c.in_err-made.field-0.0 done
    (subst (λ (w : WindowView). SweepStops g.C.Claimant.keeps c.args.header.now mid late c.args.asker.now w c.args.claimant.now c.in_err-made.field-0.0)
    (c.in_ok-window.ensures ∙ ap new_window c.variables.ensures.value) c.in_err-made.ensures.err))

pub returns-in_err-closed : goal.returns-in_err-closed
returns-in_err-closed g c =
    let old : DeskView = g.D.Desk.view c.args.desk.now in
    let mid : DeskView = g.D.Desk.view c.create_file.new.desk in
    let late : DeskView = g.D.Desk.view c.put_all-made.new.desk in
    let new : DeskView = g.D.Desk.view c.close_file-closed.new.desk in
    let done : IsDone c.args.name.now old mid late new
    = record {
      more = c.file_holds.ensures.more;
      closing = c.file_holds.ensures.closed;
      created = c.in_ok-create_file.ensures.ok;
      closed = c.close_file-closed.ensures.closed;
    } in
    by-exit (λ (r : Result (List Claim)
    WorkError). FileAnswers g.C.Claimant.keeps c.args.header.now c.args.asker.now c.args.claimant.now c.args.name.now old new r)
    c.from_residual-in_err-closed.result c.in_err-closed.field-0.0 c.from_residual-in_err-closed.ensures.1
    (file-closed g.C.Claimant.keeps c.forms_are_clear.ensures c.args.name.now old mid late new c.args.header.now c.args.asker.now c.args.claimant.now
    c.in_ok-made.made
    c.in_err-closed.field-0.0 done
    (subst (λ (w : WindowView). SweepMore g.C.Claimant.keeps c.args.header.now mid late c.args.asker.now w c.args.claimant.now c.in_ok-made.made)
    (c.in_ok-window.ensures ∙ ap new_window c.variables.ensures.value) c.in_ok-made.ensures.ok) c.in_err-closed.ensures.cause)

pub returns : goal.returns
returns g c =
    let old : DeskView = g.D.Desk.view c.args.desk.now in
    let mid : DeskView = g.D.Desk.view c.create_file.new.desk in
    let late : DeskView = g.D.Desk.view c.put_all-made.new.desk in
    let new : DeskView = g.D.Desk.view c.close_file-closed.new.desk in
    let done : IsDone c.args.name.now old mid late new
    = record {
      more = c.file_holds.ensures.more;
      closing = c.file_holds.ensures.closed;
      created = c.in_ok-create_file.ensures.ok;
      closed = c.close_file-closed.ensures.closed;
    } in
    file-whole g.C.Claimant.keeps c.forms_are_clear.ensures c.args.name.now old mid late new c.args.header.now c.args.asker.now c.args.claimant.now
    c.in_ok-made.made done
    (subst (λ (w : WindowView). SweepMore g.C.Claimant.keeps c.args.header.now mid late c.args.asker.now w c.args.claimant.now c.in_ok-made.made)
    (c.in_ok-window.ensures ∙ ap new_window c.variables.ensures.value) c.in_ok-made.ensures.ok)
