use Rattle.std.proofs.Common.{◌∙◌, List, Bool, Result, IfErr, ap, rules}
use Rattle.dist_outside.specs.DeskView.{DeskView}
use Rattle.dist_outside.specs.declared.trouble.WorkError.{WorkError}
use Rattle.dist_outside.specs.declared.trouble.WorkError.TheVariants.{NoMemory}
use Rattle.dist_solver.specs.declared.answers.Answer.TheVariants.{Refuted}
use Rattle.dist_cert.specs.Form.{Word}
use Rattle.dist_findings.specs.declared.finding.Finding.TheVariants as finding
use Rattle.dist_inquiry.specs.Asking.{AskStops}
use Rattle.dist_line_write.specs.ScriptLaws.{by-exit}
use Rattle.dist_inquiry.proofs.Noted.{ask-more-in, ask-stops-in, asked-and-noted, stops-noted}
use Rattle.dist_inquiry.proofs.noting.refute_and_note.Goals as goal

pub returns-in_err-refuted-clause-err : goal.returns-in_err-refuted-clause-err
returns-in_err-refuted-clause-err g c =
    let old : DeskView = g.D.Desk.view c.args.desk.now in
    let new : DeskView = g.D.Desk.view c.refute.new.desk in
    by-exit (λ (r : Result Bool WorkError). IfErr r (AskStops c.args.inquirer.now c.args.question.now old new)) c.from_residual.result
    c.in_err-refuted.field-0.0 c.from_residual.ensures.1
    (ask-stops-in old new c.args.inquirer.now c.args.question.now c.in_err-refuted.field-0.0 c.in_err-refuted.ensures.err)

pub returns-in_err-literals-clause-err : goal.returns-in_err-literals-clause-err
returns-in_err-literals-clause-err g c =
    let old : DeskView = g.D.Desk.view c.args.desk.now in
    let new : DeskView = g.D.Desk.view c.refute.new.desk in
    by-exit (λ (r : Result Bool WorkError). IfErr r (AskStops c.args.inquirer.now c.args.question.now old new)) c.from_residual-in_err-literals.result NoMemory
    c.from_residual-in_err-literals.ensures.1
    (stops-noted c.file_grows.ensures.begin c.file_grows.ensures.twice old new c.args.inquirer.now c.refute.new.self c.args.question.now
    (Refuted c.args.hints.now) (ask-more-in (g.D.Desk.view c.args.desk.now) (g.D.Desk.view c.refute.new.desk) c.args.inquirer.now c.refute.new.self
    c.args.question.now
    (Refuted c.args.hints.now) (c.in_ok-refuted.ensures.ok c.if-not-refuted.false)))

pub returns-in_err-note-clause-err : goal.returns-in_err-note-clause-err
returns-in_err-note-clause-err g c =
    let old : DeskView = g.D.Desk.view c.args.desk.now in
    let new : DeskView = g.D.Desk.view c.refute.new.desk in
    by-exit (λ (r : Result Bool WorkError). IfErr r (AskStops c.args.inquirer.now c.args.question.now old new)) c.from_residual-in_err-note.result NoMemory
    c.from_residual-in_err-note.ensures.1
    (stops-noted c.file_grows.ensures.begin c.file_grows.ensures.twice old new c.args.inquirer.now c.refute.new.self c.args.question.now
    (Refuted c.args.hints.now) (ask-more-in (g.D.Desk.view c.args.desk.now) (g.D.Desk.view c.refute.new.desk) c.args.inquirer.now c.refute.new.self
    c.args.question.now
    (Refuted c.args.hints.now) (c.in_ok-refuted.ensures.ok c.if-not-refuted.false)))

pub returns-clause-ok : goal.returns-clause-ok
returns-clause-ok g c told =
    asked-and-noted (g.A.Answering.noted c.args.answering.now) (g.D.Desk.view c.args.desk.now) (g.D.Desk.view c.refute.new.desk) c.args.inquirer.now
    c.refute.new.self c.args.notes.now c.note.new.notes c.args.question.now (Refuted c.args.hints.now) (finding.Refuted c.from_vec.result)
    (ap (λ (words : List Word). finding.Refuted words) (c.from_vec.ensures ∙ search rules))
    (ask-more-in (g.D.Desk.view c.args.desk.now) (g.D.Desk.view c.refute.new.desk) c.args.inquirer.now c.refute.new.self c.args.question.now
    (Refuted c.args.hints.now) (c.in_ok-refuted.ensures.ok c.if-not-refuted.false)) c.in_ok-note.ensures
