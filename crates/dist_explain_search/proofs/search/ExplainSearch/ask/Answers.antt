use Rattle.std.proofs.Common.{◌∙◌, List, Result, subst, sym}
use Rattle.std.specs.Prelude.{IfErr, IfOk}
use Rattle.dist_cert.specs.Form.{Word}
use Rattle.dist_cert.specs.declared.records.CertRecord.TheVariants.{Question}
use Rattle.dist_outside.specs.DeskView.{DeskView}
use Rattle.dist_outside.specs.declared.trouble.WorkError.{WorkError}
use Rattle.dist_outside.specs.declared.trouble.WorkError.TheVariants.{NoMemory}
use Rattle.dist_solver.specs.declared.answers.Answer.{Answer}
use Rattle.dist_inquiry.specs.Asking.{AskStops}
use Rattle.dist_line_write.specs.Asking.{AskerView, IsOver}
use Rattle.dist_line_write.specs.Script.{OnlyThis}
use Rattle.dist_line_write.specs.ScriptLaws.{by-exit, stops-for-memory}
use Rattle.dist_inquiry.specs.AnswerText.{NoteMore}
use Rattle.dist_explain_search.specs.SearchPrivate.{explain_noting, question_of}
use Rattle.dist_explain_search.proofs.QuestionLemmas.{question-over}
use Rattle.dist_explain_search.proofs.search.ExplainSearch.ask.Goals as goal

pub returns-in_err-question-clause-err : goal.returns-in_err-question-clause-err
returns-in_err-question-clause-err g c =
    let d : DeskView = g.D.Desk.view c.args.desk.now in
    let a : AskerView = c.args.inquirer.now in
    let question : List Word = question_of c.args.self.now.asked c.args.numbers.now in
    by-exit (λ (r : Result Answer WorkError). IfErr r (AskStops a question d d)) c.from_residual.result NoMemory c.from_residual.ensures.1
    (λ s before at. stops-for-memory s (OnlyThis before (Question question)) before a.writer d d at.writer (c.file_grows.ensures.begin d))

pub ask_and_note-requires-clause-question : goal.ask_and_note-requires-clause-question
ask_and_note-requires-clause-question g c =
    subst (λ (q : List Word). IsOver c.args.inquirer.now.log.variables q) (sym (c.deref.ensures.value ∙ c.in_ok-question.ensures))
    (question-over c.args.self.now.asked c.args.inquirer.now.log.variables c.args.numbers.now c.requires.fits c.requires.numbers)

pub returns-clause-ok : goal.returns-clause-ok
returns-clause-ok g c =
    subst (λ (q : List Word). IfOk c.ask_and_note.result (NoteMore explain_noting (g.D.Desk.view c.args.desk.now) (g.D.Desk.view c.ask_and_note.new.desk)
    c.args.inquirer.now c.ask_and_note.new.inquirer c.args.self.now.notes c.ask_and_note.new.notes q)) (c.deref.ensures.value ∙ c.in_ok-question.ensures)
    c.ask_and_note.ensures.ok

pub returns-clause-err : goal.returns-clause-err
returns-clause-err g c =
    subst (λ (q : List Word). IfErr c.ask_and_note.result (AskStops c.args.inquirer.now q (g.D.Desk.view c.args.desk.now)
    (g.D.Desk.view c.ask_and_note.new.desk))) (c.deref.ensures.value ∙ c.in_ok-question.ensures) c.ask_and_note.ensures.err
