use Rattle.std.proofs.Common.{◌∙◌, ◌^◌, ◌<◌, ℕ, List, Result, Bool, IfErr, ap, arith, length, sym, subst}
use Rattle.dist_clause.specs.Formula.{Literal, IsClauseOver}
use Rattle.dist_derive.specs.ClauseLog.{ClauseLog}
use Rattle.dist_derive.specs.Follows.{EachLineFollows}
use Rattle.dist_outside.specs.DeskView.{DeskView}
use Rattle.dist_outside.specs.declared.trouble.WorkError.{WorkError}
use Rattle.dist_outside.specs.declared.trouble.WorkError.TheVariants.{NoMemory}
use Rattle.dist_solver.specs.declared.answers.Answer.TheVariants.{Refuted}
use Rattle.dist_cert.specs.Groups.{clause_of}
use Rattle.dist_line_write.specs.Asking.{AskStops, AskerView, IsOver}
use Rattle.dist_line_write.specs.ScriptLaws.{by-exit, two-grow}
use Rattle.dist_line_write.proofs.Asked.{asked, clause-over, stops-at-answer, stops-at-question, stops-before}
use Rattle.dist_line_write.proofs.Refuted.{refuted-same, refutes-at-once}
use Rattle.dist_line_write.proofs.asker.Asker.refute.Goals as goal

pub returns-in_err-assumptions-clause-err : goal.returns-in_err-assumptions-clause-err
returns-in_err-assumptions-clause-err g c =
    let first : DeskView = g.D.Desk.view c.args.desk.now in
    by-exit (λ (r : Result Bool WorkError). IfErr r (AskStops c.args.self.now c.args.question.now first first)) c.from_residual.result NoMemory
    c.from_residual.ensures.1 (stops-before c.file_grows.ensures.begin c.args.self.now c.args.question.now first)

pub are_refuted-requires-clause-assumptions : goal.are_refuted-requires-clause-assumptions
are_refuted-requires-clause-assumptions g c =
    let over = subst (λ (v : AskerView). IsOver v.log.variables c.args.question.now) (sym c.self.view_is) c.requires.question in
    subst (λ (l : ClauseLog). IsClauseOver l.variables c.deref.result.now) (sym c.log-log.ensures.value)
    (subst (λ (ls : List Literal). IsClauseOver c.self.inside.solver.log.variables ls) (sym (c.deref.ensures.value ∙ c.in_ok-assumptions.ensures))
    (clause-over c.self.inside.solver.log.variables c.args.question.now over))

pub are_refuted-requires-clause-lines_follow : goal.are_refuted-requires-clause-lines_follow
are_refuted-requires-clause-lines_follow g c =
    subst (λ (l : ClauseLog). EachLineFollows l.inputs l.clauses) (sym c.log-log.ensures.value) c.log-log.ensures.lines_follow

pub returns-in_err-refuted-clause-err : goal.returns-in_err-refuted-clause-err
returns-in_err-refuted-clause-err g c =
    let first : DeskView = g.D.Desk.view c.args.desk.now in
    by-exit (λ (r : Result Bool WorkError). IfErr r (AskStops c.args.self.now c.args.question.now first first)) c.from_residual-in_err-refuted.result NoMemory
    c.from_residual-in_err-refuted.ensures.1 (stops-before c.file_grows.ensures.begin c.args.self.now c.args.question.now first)

pub returns-in_err-put_question-clause-err : goal.returns-in_err-put_question-clause-err
returns-in_err-put_question-clause-err g c =
    let t : AskerView = record { log = c.self.inside.solver.log; writer = c.self.inside.writer; limit = c.self.inside.limit } in
    let first : DeskView = g.D.Desk.view c.args.desk.now in
    let last : DeskView = g.D.Desk.view c.put_question.new.desk in
    let variables = ap (λ (l : ClauseLog). l.variables) c.log.ensures.value in
    let fits : t.log.variables < 2 ^ 32 = omega (arith, variables, c.keeps_invariant.ensures.variables) in
    let over = subst (λ (v : AskerView). IsOver v.log.variables c.args.question.now) (sym c.self.view_is) c.requires.question in
    by-exit (λ (r : Result Bool WorkError). IfErr r (AskStops c.args.self.now c.args.question.now first last)) c.from_residual-in_err-put_question.result
    c.in_err-put_question.field-0.0 c.from_residual-in_err-put_question.ensures.1
    (stops-at-question t c.args.self.now c.args.question.now first last c.in_err-put_question.field-0.0 c.self.view_is fits over
    c.in_err-put_question.ensures.err)

pub returns-in_err-put_refuted-clause-err : goal.returns-in_err-put_refuted-clause-err
returns-in_err-put_refuted-clause-err g c =
    let t : AskerView = record { log = c.self.inside.solver.log; writer = c.self.inside.writer; limit = c.self.inside.limit } in
    let first : DeskView = g.D.Desk.view c.args.desk.now in
    let mid : DeskView = g.D.Desk.view c.put_question.new.desk in
    let last : DeskView = g.D.Desk.view c.put_refuted.new.desk in
    let hints : List ℕ = c.args.hints.now in
    let variables = ap (λ (l : ClauseLog). l.variables) c.log.ensures.value in
    let fits : t.log.variables < 2 ^ 32 = omega (arith, variables, c.keeps_invariant.ensures.variables) in
    let count = ap (λ (l : ClauseLog). length l.clauses) c.log.ensures.value in
    let few : length t.log.clauses < 2 ^ 32 = omega (arith, count, c.keeps_invariant.ensures.clauses) in
    let over = subst (λ (v : AskerView). IsOver v.log.variables c.args.question.now) (sym c.self.view_is) c.requires.question in
    let refuted = refuted-same c.log-log.result.now t.log c.deref.result.now (clause_of c.args.question.now) hints c.log-log.ensures.value
    (c.deref.ensures.value ∙ c.in_ok-assumptions.ensures) (c.in_ok-refuted.ensures.refuted c.if-not-refuted.false) in
    by-exit (λ (r : Result Bool WorkError). IfErr r (AskStops c.args.self.now c.args.question.now first last)) c.from_residual-in_err-put_refuted.result
    c.in_err-put_refuted.field-0.0 c.from_residual-in_err-put_refuted.ensures.1
    (stops-at-answer c.file_grows.ensures.twice t c.args.self.now t.log c.args.question.now first mid mid last c.put_question.new.writer
    c.put_question.new.writer (Refuted hints) c.in_err-put_refuted.field-0.0 c.self.view_is fits over
    c.in_ok-put_question.ensures.grew c.in_ok-put_question.ensures.ok
    (refutes-at-once c.file_grows.ensures.begin t.log (clause_of c.args.question.now) t.limit mid c.put_question.new.writer hints few refuted)
    c.in_err-put_refuted.ensures.err)

pub returns-in_err-put_refuted-clause-grows : goal.returns-in_err-put_refuted-clause-grows
returns-in_err-put_refuted-clause-grows g c =
    two-grow c.file_grows.ensures.twice c.put_question.ensures.grows.0 c.put_refuted.ensures.grows.0 (g.D.Desk.view c.args.desk.now)
    (g.D.Desk.view c.put_question.new.desk) (g.D.Desk.view c.put_refuted.new.desk) c.put_question.ensures.grows.1 c.put_refuted.ensures.grows.1

pub returns-clause-ok : goal.returns-clause-ok
returns-clause-ok g c told =
    let t : AskerView = record { log = c.self.inside.solver.log; writer = c.self.inside.writer; limit = c.self.inside.limit } in
    let first : DeskView = g.D.Desk.view c.args.desk.now in
    let mid : DeskView = g.D.Desk.view c.put_question.new.desk in
    let last : DeskView = g.D.Desk.view c.put_refuted.new.desk in
    let hints : List ℕ = c.args.hints.now in
    let variables = ap (λ (l : ClauseLog). l.variables) c.log.ensures.value in
    let fits : t.log.variables < 2 ^ 32 = omega (arith, variables, c.keeps_invariant.ensures.variables) in
    let count = ap (λ (l : ClauseLog). length l.clauses) c.log.ensures.value in
    let few : length t.log.clauses < 2 ^ 32 = omega (arith, count, c.keeps_invariant.ensures.clauses) in
    let over = subst (λ (v : AskerView). IsOver v.log.variables c.args.question.now) (sym c.self.view_is) c.requires.question in
    let refuted = refuted-same c.log-log.result.now t.log c.deref.result.now (clause_of c.args.question.now) hints c.log-log.ensures.value
    (c.deref.ensures.value ∙ c.in_ok-assumptions.ensures) (c.in_ok-refuted.ensures.refuted c.if-not-refuted.false) in
    asked c.file_grows.ensures.twice t c.args.self.now t.log c.args.question.now first mid mid last c.put_question.new.writer
    c.put_question.new.writer c.put_refuted.new.writer (Refuted hints) c.self.view_is fits over
    c.in_ok-put_question.ensures.grew c.in_ok-put_question.ensures.ok
    (refutes-at-once c.file_grows.ensures.begin t.log (clause_of c.args.question.now) t.limit mid c.put_question.new.writer hints few refuted)
    c.in_ok-put_refuted.ensures.grew c.in_ok-put_refuted.ensures.ok

pub returns-clause-grows : goal.returns-clause-grows
returns-clause-grows g c =
    two-grow c.file_grows.ensures.twice c.put_question.ensures.grows.0 c.put_refuted.ensures.grows.0 (g.D.Desk.view c.args.desk.now)
    (g.D.Desk.view c.put_question.new.desk) (g.D.Desk.view c.put_refuted.new.desk) c.put_question.ensures.grows.1 c.put_refuted.ensures.grows.1
