use Rattle.std.proofs.Common.{Result, IfErr}
use Rattle.dist_outside.specs.DeskView.{DeskView}
use Rattle.dist_outside.specs.declared.trouble.WorkError.{WorkError}
use Rattle.dist_line_write.specs.ScriptLaws.{by-exit}
use Rattle.dist_repair_search.specs.SearchPrivate.{LowerStops, NextStops}
use Rattle.dist_repair_search.proofs.SearchLemmas.{at-over, lower-more, lower-stops, next-more, next-stops}
use Rattle.dist_repair_search.proofs.search.ask_at.Goals as goal

pub ask_and_note-requires-clause-question : goal.ask_and_note-requires-clause-question
ask_and_note-requires-clause-question g c =
    at-over c.args.inquirer.now.log.variables c.args.words.now c.args.number c.at-question.result c.requires.over c.requires.number
    c.at-question.ensures.value

pub returns-in_err-_answer-clause-err : goal.returns-in_err-_answer-clause-err
returns-in_err-_answer-clause-err g c =
    let s = c.args.repairing.now.space.now in
    let words = c.args.words.now in
    let old : DeskView = g.D.Desk.view c.args.desk.now in
    let new : DeskView = g.D.Desk.view c.ask_and_note.new.desk in
    by-exit (λ (r : Result (Unit {0}) WorkError). IfErr r (NextStops s words c.args.number c.args.notes.now old new c.args.inquirer.now)) c.from_residual.result
    c.in_err-_answer.field-0.0 c.from_residual.ensures.1
    (next-stops s c.keeps_invariant.ensures.space words c.at-question.result old new c.args.inquirer.now c.args.notes.now c.args.number
    c.requires.number (λ asked are. c.at-question.ensures.asks s asked are) c.in_err-_answer.field-0.0 c.in_err-_answer.ensures.err)

pub returns-clause-ok : goal.returns-clause-ok
returns-clause-ok g c =
    let s = c.args.repairing.now.space.now in
    next-more s c.keeps_invariant.ensures.space c.args.words.now c.at-question.result (g.D.Desk.view c.args.desk.now)
    (g.D.Desk.view c.ask_and_note.new.desk) c.args.inquirer.now c.args.notes.now c.args.number c.requires.number
    (λ asked are. c.at-question.ensures.asks s asked are)
    (λ clauses are. c.questions_decide.ensures.next s clauses c.keeps_invariant.ensures.space are)
    c.ask_and_note.new.inquirer c.ask_and_note.new.notes c.in_ok-_answer._answer c.in_ok-_answer.ensures.ok

pub returns-in_err-_answer-clause-lower_err : goal.returns-in_err-_answer-clause-lower_err
returns-in_err-_answer-clause-lower_err g c =
    let s = c.args.repairing.now.space.now in
    let words = c.args.words.now in
    let old : DeskView = g.D.Desk.view c.args.desk.now in
    let new : DeskView = g.D.Desk.view c.ask_and_note.new.desk in
    by-exit (λ (r : Result (Unit {0}) WorkError). IfErr r (LowerStops s words c.args.number c.args.notes.now old new c.args.inquirer.now))
    c.from_residual.result
    c.in_err-_answer.field-0.0 c.from_residual.ensures.1
    (lower-stops s c.keeps_invariant.ensures.space words c.at-question.result old new c.args.inquirer.now c.args.notes.now c.args.number
    c.requires.number (λ asked are. c.at-question.ensures.asks s asked are) c.in_err-_answer.field-0.0 c.in_err-_answer.ensures.err)

pub returns-clause-lower : goal.returns-clause-lower
returns-clause-lower g c =
    let s = c.args.repairing.now.space.now in
    lower-more s c.keeps_invariant.ensures.space c.args.words.now c.at-question.result (g.D.Desk.view c.args.desk.now)
    (g.D.Desk.view c.ask_and_note.new.desk) c.args.inquirer.now c.args.notes.now c.args.number c.requires.number
    (λ asked are. c.at-question.ensures.asks s asked are)
    (λ clauses are. c.questions_decide.ensures.lower s clauses c.keeps_invariant.ensures.space are)
    c.ask_and_note.new.inquirer c.ask_and_note.new.notes c.in_ok-_answer._answer c.in_ok-_answer.ensures.ok
