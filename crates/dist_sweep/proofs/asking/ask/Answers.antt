use Rattle.std.proofs.Common.{Result, IfErr}
use Rattle.dist_outside.specs.DeskView.{DeskView}
use Rattle.dist_outside.specs.declared.trouble.WorkError.{WorkError}
use Rattle.dist_line_write.specs.ScriptLaws.{by-exit}
use Rattle.dist_sweep.specs.Asking.{AskStops}
use Rattle.dist_sweep.specs.declared.asking.Reply.{Reply}
use Rattle.dist_sweep.proofs.Asked.{ask-more-in, ask-stops-in, reply-holds}
use Rattle.dist_sweep.proofs.asking.ask.Goals as goal

pub returns-in_err-answer-clause-err : goal.returns-in_err-answer-clause-err
returns-in_err-answer-clause-err g c =
    let old : DeskView = g.D.Desk.view c.args.desk.now in
    let new : DeskView = g.D.Desk.view c.ask_with.new.desk in
    by-exit (λ (r : Result Reply WorkError). IfErr r (AskStops c.args.asker.now c.args.question.now old new)) c.from_residual.result
    c.in_err-answer.field-0.0 c.from_residual.ensures.1
    (ask-stops-in old new c.args.asker.now c.args.question.now c.in_err-answer.field-0.0 c.in_err-answer.ensures.err)

pub returns-clause-ok : goal.returns-clause-ok
returns-clause-ok g c =
    ask-more-in (g.D.Desk.view c.args.desk.now) (g.D.Desk.view c.ask_with.new.desk) c.args.asker.now c.ask_with.new.self c.args.question.now
    c.in_ok-answer.answer c.reply_of.result c.in_ok-answer.ensures.ok c.reply_of.ensures

pub returns-clause-holds : goal.returns-clause-holds
returns-clause-holds g c =
    reply-holds c.args.asker.now.log.variables c.args.question.now c.in_ok-answer.answer c.reply_of.result c.in_ok-answer.ensures.holds c.reply_of.ensures
