use Rattle.std.proofs.Common.{◌∙◌, ◌^◌, ◌<◌, ℕ, List, Result, IfErr, ap, arith, sym, subst, Ok}
use Rattle.dist_clause.specs.Formula.{Literal, IsClauseOver}
use Rattle.dist_derive.specs.ClauseLog.{ClauseLog}
use Rattle.dist_outside.specs.DeskView.{DeskView}
use Rattle.dist_outside.specs.declared.trouble.WorkError.{WorkError}
use Rattle.dist_outside.specs.declared.trouble.WorkError.TheVariants.{NoMemory}
use Rattle.dist_solver.specs.Ask.{IsAnswer}
use Rattle.dist_solver.specs.declared.answers.Answer.{Answer}
use Rattle.dist_line_write.specs.Asking.{AskerView, IsOver, AskStops}
use Rattle.dist_line_write.specs.ScriptLaws.{by-exit, two-grow}
use Rattle.dist_line_write.specs.Words.{IsAnswerOver}
use Rattle.dist_line_write.proofs.Asked.{answer-holds, asked, clause-over, stops-at-answer, stops-at-question, stops-before, stops-while-derived}
use Rattle.dist_line_write.proofs.Closing.{Derives, DerivesNone}
use Rattle.dist_line_write.proofs.asker.Asker.ask_with.Goals as goal

pub returns-in_err-assumptions-clause-err : goal.returns-in_err-assumptions-clause-err
returns-in_err-assumptions-clause-err g c =
    let first : DeskView = g.D.Desk.view c.args.desk.now in
    by-exit (λ (r : Result Answer WorkError). IfErr r (AskStops c.args.self.now c.args.question.now first first)) c.from_residual.result NoMemory
    c.from_residual.ensures.1
    (stops-before c.file_grows.ensures.begin c.args.self.now c.args.question.now first)

pub returns-in_err-put_question-clause-err : goal.returns-in_err-put_question-clause-err
returns-in_err-put_question-clause-err g c =
    let t : AskerView = record { log = c.self.inside.solver.log; writer = c.self.inside.writer; limit = c.self.inside.limit } in
    let first : DeskView = g.D.Desk.view c.args.desk.now in
    let last : DeskView = g.D.Desk.view c.put_question.new.desk in
    let variables = c.variables-variables.ensures.value ∙ ap (λ (l : ClauseLog). l.variables) c.log.ensures.value in
    let fits : t.log.variables < 2 ^ 32 = omega (arith, variables, c.variables-variables.ensures.stated) in
    let over = subst (λ (v : AskerView). IsOver v.log.variables c.args.question.now) (sym c.self.view_is) c.requires.question in
    by-exit (λ (r : Result Answer WorkError). IfErr r (AskStops c.args.self.now c.args.question.now first last)) c.from_residual-in_err-put_question.result
    c.in_err-put_question.field-0.0 c.from_residual-in_err-put_question.ensures.1
    (stops-at-question t c.args.self.now c.args.question.now first last c.in_err-put_question.field-0.0 c.self.view_is fits over
    c.in_err-put_question.ensures.err)

pub derive-requires-clause-assumptions : goal.derive-requires-clause-assumptions
derive-requires-clause-assumptions g c =
    let over = subst (λ (v : AskerView). IsOver v.log.variables c.args.question.now) (sym c.self.view_is) c.requires.question in
    subst (λ (ls : List Literal). IsClauseOver c.self.inside.solver.log.variables ls) (sym (c.deref.ensures.value ∙ c.in_ok-assumptions.ensures))
    (clause-over c.self.inside.solver.log.variables c.args.question.now over)

pub returns-in_err-answer-clause-err : goal.returns-in_err-answer-clause-err
returns-in_err-answer-clause-err g c =
    let t : AskerView = record { log = c.self.inside.solver.log; writer = c.self.inside.writer; limit = c.self.inside.limit } in
    let first : DeskView = g.D.Desk.view c.args.desk.now in
    let mid : DeskView = g.D.Desk.view c.put_question.new.desk in
    let last : DeskView = g.D.Desk.view c.derive.new.desk in
    let variables = c.variables-variables.ensures.value ∙ ap (λ (l : ClauseLog). l.variables) c.log.ensures.value in
    let fits : t.log.variables < 2 ^ 32 = omega (arith, variables, c.variables-variables.ensures.stated) in
    let over = subst (λ (v : AskerView). IsOver v.log.variables c.args.question.now) (sym c.self.view_is) c.requires.question in
    by-exit (λ (r : Result Answer WorkError). IfErr r (AskStops c.args.self.now c.args.question.now first last)) c.from_residual-in_err-answer.result
    c.in_err-answer.field-0.0 c.from_residual-in_err-answer.ensures.1
    (stops-while-derived c.file_grows.ensures.twice t c.args.self.now c.args.question.now first mid last c.put_question.new.writer c.in_err-answer.field-0.0
    c.self.view_is fits over c.in_ok-put_question.ensures.grew c.in_ok-put_question.ensures.ok
    (subst (λ (ls : List Literal). DerivesNone t.log ls t.limit mid last c.put_question.new.writer c.in_err-answer.field-0.0)
    (c.deref.ensures.value ∙ c.in_ok-assumptions.ensures) c.in_err-answer.ensures.err))

pub returns-in_err-answer-clause-grows : goal.returns-in_err-answer-clause-grows
returns-in_err-answer-clause-grows g c =
    two-grow c.file_grows.ensures.twice c.put_question.ensures.grows.0 c.derive.ensures.grows.0 (g.D.Desk.view c.args.desk.now)
    (g.D.Desk.view c.put_question.new.desk) (g.D.Desk.view c.derive.new.desk)
    c.put_question.ensures.grows.1 c.derive.ensures.grows.1

pub returns-in_err-put_answer-clause-err : goal.returns-in_err-put_answer-clause-err
returns-in_err-put_answer-clause-err g c =
    let t : AskerView = record { log = c.self.inside.solver.log; writer = c.self.inside.writer; limit = c.self.inside.limit } in
    let first : DeskView = g.D.Desk.view c.args.desk.now in
    let mid : DeskView = g.D.Desk.view c.put_question.new.desk in
    let later : DeskView = g.D.Desk.view c.derive.new.desk in
    let last : DeskView = g.D.Desk.view c.put_answer.new.desk in
    let variables = c.variables-variables.ensures.value ∙ ap (λ (l : ClauseLog). l.variables) c.log.ensures.value in
    let fits : t.log.variables < 2 ^ 32 = omega (arith, variables, c.variables-variables.ensures.stated) in
    let over = subst (λ (v : AskerView). IsOver v.log.variables c.args.question.now) (sym c.self.view_is) c.requires.question in
    by-exit (λ (r : Result Answer WorkError). IfErr r (AskStops c.args.self.now c.args.question.now first last)) c.from_residual-in_err-put_answer.result
    c.in_err-put_answer.field-0.0 c.from_residual-in_err-put_answer.ensures.1
    (stops-at-answer c.file_grows.ensures.twice t c.args.self.now c.derive.new.solver.log c.args.question.now first mid later last c.put_question.new.writer
    c.derive.new.writer c.in_ok-answer.answer c.in_err-put_answer.field-0.0 c.self.view_is fits over
    c.in_ok-put_question.ensures.grew c.in_ok-put_question.ensures.ok
    (subst (λ (ls : List Literal). Derives t.log c.derive.new.solver.log ls t.limit mid later c.put_question.new.writer c.derive.new.writer
    c.in_ok-answer.answer) (c.deref.ensures.value ∙ c.in_ok-assumptions.ensures) c.in_ok-answer.ensures.ok)
    c.in_err-put_answer.ensures.err)

pub returns-in_err-put_answer-clause-grows : goal.returns-in_err-put_answer-clause-grows
returns-in_err-put_answer-clause-grows g c =
    let twice = c.file_grows.ensures.twice in
    let both = two-grow twice c.put_question.ensures.grows.0 c.derive.ensures.grows.0 (g.D.Desk.view c.args.desk.now) (g.D.Desk.view c.put_question.new.desk)
    (g.D.Desk.view c.derive.new.desk)
    c.put_question.ensures.grows.1 c.derive.ensures.grows.1 in
    two-grow twice both.0 c.put_answer.ensures.grows.0 (g.D.Desk.view c.args.desk.now) (g.D.Desk.view c.derive.new.desk) (g.D.Desk.view c.put_answer.new.desk)
    both.1 c.put_answer.ensures.grows.1

pub returns-clause-ok : goal.returns-clause-ok
returns-clause-ok g c =
    let t : AskerView = record { log = c.self.inside.solver.log; writer = c.self.inside.writer; limit = c.self.inside.limit } in
    let first : DeskView = g.D.Desk.view c.args.desk.now in
    let mid : DeskView = g.D.Desk.view c.put_question.new.desk in
    let later : DeskView = g.D.Desk.view c.derive.new.desk in
    let last : DeskView = g.D.Desk.view c.put_answer.new.desk in
    let variables = c.variables-variables.ensures.value ∙ ap (λ (l : ClauseLog). l.variables) c.log.ensures.value in
    let fits : t.log.variables < 2 ^ 32 = omega (arith, variables, c.variables-variables.ensures.stated) in
    let over = subst (λ (v : AskerView). IsOver v.log.variables c.args.question.now) (sym c.self.view_is) c.requires.question in
    asked c.file_grows.ensures.twice t c.args.self.now c.derive.new.solver.log c.args.question.now first mid later last c.put_question.new.writer
    c.derive.new.writer c.put_answer.new.writer c.in_ok-answer.answer c.self.view_is fits over
    c.in_ok-put_question.ensures.grew c.in_ok-put_question.ensures.ok
    (subst (λ (ls : List Literal). Derives t.log c.derive.new.solver.log ls t.limit mid later c.put_question.new.writer c.derive.new.writer
    c.in_ok-answer.answer) (c.deref.ensures.value ∙ c.in_ok-assumptions.ensures) c.in_ok-answer.ensures.ok)
    c.in_ok-put_answer.ensures.grew c.in_ok-put_answer.ensures.ok

pub returns-clause-grows : goal.returns-clause-grows
returns-clause-grows g c =
    let twice = c.file_grows.ensures.twice in
    let both = two-grow twice c.put_question.ensures.grows.0 c.derive.ensures.grows.0 (g.D.Desk.view c.args.desk.now) (g.D.Desk.view c.put_question.new.desk)
    (g.D.Desk.view c.derive.new.desk)
    c.put_question.ensures.grows.1 c.derive.ensures.grows.1 in
    two-grow twice both.0 c.put_answer.ensures.grows.0 (g.D.Desk.view c.args.desk.now) (g.D.Desk.view c.derive.new.desk) (g.D.Desk.view c.put_answer.new.desk)
    both.1 c.put_answer.ensures.grows.1

pub returns-clause-over : goal.returns-clause-over
returns-clause-over g c =
    let same = ap (λ (v : AskerView). v.log.variables) c.self.view_is in
    subst (λ (n : ℕ). IsAnswerOver n c.in_ok-answer.answer) same c.in_ok-answer.ensures.over

pub returns-clause-holds : goal.returns-clause-holds
returns-clause-holds g c =
    let t : AskerView = record { log = c.self.inside.solver.log; writer = c.self.inside.writer; limit = c.self.inside.limit } in
    let same = ap (λ (v : AskerView). v.log.variables) c.self.view_is in
    answer-holds c.args.self.now.log.variables c.args.question.now t.log c.derive.new.solver.log t.limit c.in_ok-answer.answer same
    (subst (λ (ls : List Literal). IsAnswer t.log c.derive.new.solver.log ls t.limit (Ok c.in_ok-answer.answer))
    (c.deref.ensures.value ∙ c.in_ok-assumptions.ensures) c.in_ok-answer.ensures.answered)
