use Rattle.std.proofs.Common.{◌≡◌, ◌∙◌, List, Result, IfErr, ap, sym, subst}
use Rattle.dist_derive.specs.ClauseLog.{ClauseLog}
use Rattle.dist_outside.specs.DeskView.{DeskView, FileGrew}
use Rattle.dist_outside.specs.declared.trouble.WorkError.{WorkError}
use Rattle.dist_solver.specs.Ask.{IsAnswer}
use Rattle.dist_solver.specs.Derived.{DerivedLine}
use Rattle.dist_solver.specs.declared.answers.Answer.{Answer}
use Rattle.dist_solver.specs.declared.answers.AskError.{AskError}
use Rattle.dist_cert.specs.FileLines.{lines_text}
use Rattle.dist_cert.specs.declared.records.CertRecord.{CertRecord}
use Rattle.dist_line_write.specs.Script.{PutAll, PutAllStops}
use Rattle.dist_line_write.specs.ScriptLaws.{by-exit}
use Rattle.dist_line_write.specs.Words.{AreDerived, derived_lines}
use Rattle.dist_line_write.proofs.Answered.{derived-over, small-log}
use Rattle.dist_line_write.proofs.Closing.{DerivesNone, answer-over, derives, derives-none, derives-stopped}
use Rattle.dist_line_write.proofs.asker.derive.Goals as goal

-- the lines of a log that is the same, and of the same derived lines
same-lines : (log other : ClauseLog) (ds others : List DerivedLine) → log ≡ other → ds ≡ others
    → derived_lines log.clauses ds ≡ derived_lines other.clauses others
same-lines log other ds others is are = ap (λ (l : ClauseLog). derived_lines l.clauses ds) is ∙ ap (λ (d : List DerivedLine). derived_lines other.clauses d) are

pub put_derived-requires-clause-derived : goal.put_derived-requires-clause-derived
put_derived-requires-clause-derived g c =
    let new : ClauseLog = c.ask_with-answer.new.self.log in
    let adds = c.ask_with-answer.ensures.adds in
    subst (λ (l : ClauseLog). AreDerived l.clauses c.derived.result.now) (sym c.log-2.ensures.value)
    (subst (λ (d : List DerivedLine). AreDerived new.clauses d) (sym c.derived.ensures)
    (derived-over c.args.solver.now.log.clauses adds.lines c.ask_with-answer.new.self.derived new.clauses adds.follow (ap (λ (l : ClauseLog). l.clauses)
    adds.log)))

pub returns-in_err-put_derived-clause-err : goal.returns-in_err-put_derived-clause-err
returns-in_err-put_derived-clause-err g c =
    let new : ClauseLog = c.ask_with-answer.new.self.log in
    let ds : List DerivedLine = c.ask_with-answer.new.self.derived in
    let first : DeskView = g.D.Desk.view c.args.desk.now in
    let last : DeskView = g.D.Desk.view c.put_derived.new.desk in
    let small = small-log c.log.result.now new c.log.ensures.value c.keeps_invariant.ensures.variables c.keeps_invariant.ensures.clauses
    c.keeps_invariant.ensures.within in
    by-exit (λ (r : Result Answer WorkError). IfErr r (DerivesNone c.args.solver.now.log c.args.assumptions.now c.args.limit first last c.args.writer.now))
    c.from_residual.result c.in_err-put_derived.field-0.0 c.from_residual.ensures.1
    (derives-stopped c.args.solver.now.log new ds c.args.assumptions.now c.args.limit first last c.args.writer.now c.in_err-put_derived.field-0.0
    c.ask_with-answer.ensures.adds small
    (subst (λ (ls : List CertRecord). PutAllStops c.args.writer.now ls first last c.in_err-put_derived.field-0.0)
    (same-lines c.log-2.result.now new c.derived.result.now ds c.log-2.ensures.value c.derived.ensures) c.in_err-put_derived.ensures.err))

pub returns-in-Ok-clause-ok : goal.returns-in-Ok-clause-ok
returns-in-Ok-clause-ok g c =
    let new : ClauseLog = c.ask_with-answer.new.self.log in
    let ds : List DerivedLine = c.ask_with-answer.new.self.derived in
    let first : DeskView = g.D.Desk.view c.args.desk.now in
    let last : DeskView = g.D.Desk.view c.put_derived.new.desk in
    let small = small-log c.log.result.now new c.log.ensures.value c.keeps_invariant.ensures.variables c.keeps_invariant.ensures.clauses
    c.keeps_invariant.ensures.within in
    let lines = same-lines c.log-2.result.now new c.derived.result.now ds c.log-2.ensures.value c.derived.ensures in
    derives c.args.solver.now.log new ds c.args.assumptions.now c.args.limit first last c.args.writer.now c.put_derived.new.writer
    c.in-Ok.answer c.ask_with-answer.ensures.adds small
    (subst (λ (r : Result Answer AskError). IsAnswer c.args.solver.now.log new c.args.assumptions.now c.args.limit r) c.in-Ok.is
    c.ask_with-answer.ensures.answer)
    (subst (λ (ls : List CertRecord). FileGrew (lines_text ls) first last) lines c.in_ok-put_derived.ensures.grew)
    (subst (λ (ls : List CertRecord). PutAll c.args.writer.now c.put_derived.new.writer ls) lines c.in_ok-put_derived.ensures.ok)

pub returns-in-Ok-clause-over : goal.returns-in-Ok-clause-over
returns-in-Ok-clause-over g c =
    answer-over c.args.solver.now.log c.ask_with-answer.new.self.log c.args.assumptions.now c.args.limit c.in-Ok.answer
    (subst (λ (r : Result Answer AskError). IsAnswer c.args.solver.now.log c.ask_with-answer.new.self.log c.args.assumptions.now c.args.limit r) c.in-Ok.is
    c.ask_with-answer.ensures.answer)

pub returns-in-Err-clause-err : goal.returns-in-Err-clause-err
returns-in-Err-clause-err g c =
    let new : ClauseLog = c.ask_with-answer.new.self.log in
    let ds : List DerivedLine = c.ask_with-answer.new.self.derived in
    let first : DeskView = g.D.Desk.view c.args.desk.now in
    let last : DeskView = g.D.Desk.view c.put_derived.new.desk in
    let small = small-log c.log.result.now new c.log.ensures.value c.keeps_invariant.ensures.variables c.keeps_invariant.ensures.clauses
    c.keeps_invariant.ensures.within in
    let lines = same-lines c.log-2.result.now new c.derived.result.now ds c.log-2.ensures.value c.derived.ensures in
    subst (λ (e : WorkError). DerivesNone c.args.solver.now.log c.args.assumptions.now c.args.limit first last c.args.writer.now e) (sym c.work_error.ensures)
    (derives-none c.file_grows.ensures.begin c.file_grows.ensures.twice c.args.solver.now.log new ds c.args.assumptions.now c.args.limit first last
    c.args.writer.now c.put_derived.new.writer c.in-Err.error c.ask_with-answer.ensures.adds small
    (subst (λ (r : Result Answer AskError). IsAnswer c.args.solver.now.log new c.args.assumptions.now c.args.limit r) c.in-Err.is
    c.ask_with-answer.ensures.answer)
    (subst (λ (ls : List CertRecord). FileGrew (lines_text ls) first last) lines c.in_ok-put_derived.ensures.grew)
    (subst (λ (ls : List CertRecord). PutAll c.args.writer.now c.put_derived.new.writer ls) lines c.in_ok-put_derived.ensures.ok))
