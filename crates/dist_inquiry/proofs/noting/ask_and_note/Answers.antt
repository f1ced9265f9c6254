use Rattle.std.proofs.Common.{Result, IfErr}
use Rattle.dist_outside.specs.DeskView.{DeskView}
use Rattle.dist_outside.specs.declared.trouble.WorkError.{WorkError}
use Rattle.dist_outside.specs.declared.trouble.WorkError.TheVariants.{NoMemory}
use Rattle.dist_solver.specs.declared.answers.Answer.{Answer}
use Rattle.dist_inquiry.specs.Asking.{AskStops}
use Rattle.dist_line_write.specs.ScriptLaws.{by-exit}
use Rattle.dist_inquiry.proofs.Noted.{ask-more-in, ask-stops-in, asked-and-noted, stops-noted}
use Rattle.dist_inquiry.proofs.noting.ask_and_note.Goals as goal

pub returns-in_err-answer-clause-err : goal.returns-in_err-answer-clause-err
returns-in_err-answer-clause-err g c =
    let old : DeskView = g.D.Desk.view c.args.desk.now in
    let new : DeskView = g.D.Desk.view c.ask.new.desk in
    by-exit (λ (r : Result Answer WorkError). IfErr r (AskStops c.args.inquirer.now c.args.question.now old new)) c.from_residual.result
    c.in_err-answer.field-0.0 c.from_residual.ensures.1
    (ask-stops-in old new c.args.inquirer.now c.args.question.now c.in_err-answer.field-0.0 c.in_err-answer.ensures.err)

pub returns-in_err-finding-clause-err : goal.returns-in_err-finding-clause-err
returns-in_err-finding-clause-err g c =
    let old : DeskView = g.D.Desk.view c.args.desk.now in
    let new : DeskView = g.D.Desk.view c.ask.new.desk in
    by-exit (λ (r : Result Answer WorkError). IfErr r (AskStops c.args.inquirer.now c.args.question.now old new)) c.from_residual-in_err-finding.result NoMemory
    c.from_residual-in_err-finding.ensures.1
    (stops-noted c.file_grows.ensures.begin c.file_grows.ensures.twice old new c.args.inquirer.now c.ask.new.self c.args.question.now
    c.in_ok-answer.answer (ask-more-in (g.D.Desk.view c.args.desk.now) (g.D.Desk.view c.ask.new.desk) c.args.inquirer.now c.ask.new.self c.args.question.now
    c.in_ok-answer.answer c.in_ok-answer.ensures.ok))

pub returns-in_err-note-clause-err : goal.returns-in_err-note-clause-err
returns-in_err-note-clause-err g c =
    let old : DeskView = g.D.Desk.view c.args.desk.now in
    let new : DeskView = g.D.Desk.view c.ask.new.desk in
    by-exit (λ (r : Result Answer WorkError). IfErr r (AskStops c.args.inquirer.now c.args.question.now old new)) c.from_residual-in_err-note.result NoMemory
    c.from_residual-in_err-note.ensures.1
    (stops-noted c.file_grows.ensures.begin c.file_grows.ensures.twice old new c.args.inquirer.now c.ask.new.self c.args.question.now
    c.in_ok-answer.answer (ask-more-in (g.D.Desk.view c.args.desk.now) (g.D.Desk.view c.ask.new.desk) c.args.inquirer.now c.ask.new.self c.args.question.now
    c.in_ok-answer.answer c.in_ok-answer.ensures.ok))

pub returns-clause-ok : goal.returns-clause-ok
returns-clause-ok g c =
    asked-and-noted (g.A.Answering.noted c.args.answering.now) (g.D.Desk.view c.args.desk.now) (g.D.Desk.view c.ask.new.desk) c.args.inquirer.now
    c.ask.new.self c.args.notes.now c.note.new.notes c.args.question.now c.in_ok-answer.answer c.in_ok-finding.finding c.in_ok-finding.ensures.value
    (ask-more-in (g.D.Desk.view c.args.desk.now) (g.D.Desk.view c.ask.new.desk) c.args.inquirer.now c.ask.new.self c.args.question.now
    c.in_ok-answer.answer c.in_ok-answer.ensures.ok) c.in_ok-note.ensures
