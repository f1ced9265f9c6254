use Rattle.std.proofs.Common.{Result, IfErr}
use Rattle.dist_outside.specs.DeskView.{DeskView}
use Rattle.dist_outside.specs.declared.trouble.WorkError.{WorkError}
use Rattle.dist_line_write.specs.ScriptLaws.{by-exit}
use Rattle.dist_repair_search.specs.SearchPrivate.{AloneStops}
use Rattle.dist_repair_search.proofs.SearchLemmas.{alone-more, alone-over, alone-stops}
use Rattle.dist_repair_search.proofs.search.ask_alone.Goals as goal

pub ask_and_note-requires-clause-question : goal.ask_and_note-requires-clause-question
ask_and_note-requires-clause-question g c =
    alone-over c.args.inquirer.now.log.variables c.args.words.now c.alone-question.result c.requires.over c.alone-question.ensures.value

pub returns-in_err-_answer-clause-err : goal.returns-in_err-_answer-clause-err
returns-in_err-_answer-clause-err g c =
    let s = c.args.repairing.now.space.now in
    let words = c.args.words.now in
    let old : DeskView = g.D.Desk.view c.args.desk.now in
    let new : DeskView = g.D.Desk.view c.ask_and_note.new.desk in
    by-exit (λ (r : Result (Unit {0}) WorkError). IfErr r (AloneStops s words c.args.notes.now old new c.args.inquirer.now)) c.from_residual.result
    c.in_err-_answer.field-0.0 c.from_residual.ensures.1
    (alone-stops s c.keeps_invariant.ensures.space words c.alone-question.result old new c.args.inquirer.now c.args.notes.now
    (λ asked are. c.alone-question.ensures.asks s asked are) c.in_err-_answer.field-0.0 c.in_err-_answer.ensures.err)

pub returns-clause-ok : goal.returns-clause-ok
returns-clause-ok g c =
    let s = c.args.repairing.now.space.now in
    alone-more s c.keeps_invariant.ensures.space c.args.words.now c.alone-question.result (g.D.Desk.view c.args.desk.now)
    (g.D.Desk.view c.ask_and_note.new.desk) c.args.inquirer.now c.args.notes.now (λ asked are. c.alone-question.ensures.asks s asked are)
    c.ask_and_note.new.inquirer c.ask_and_note.new.notes c.in_ok-_answer._answer c.in_ok-_answer.ensures.ok
