use Rattle.std.proofs.Common.{Err, ap, ◌∙◌}
use Rattle.dist_words.specs.Lines.{line_of}
use Rattle.dist_app.proofs.Endings.{printed_command, refused_command, refused_words, unread_words}
use Rattle.dist_app.proofs.top_call.carry_out.Goals as goal

pub returns-in-Err-BadWords-clause-ends : goal.returns-in-Err-BadWords-clause-ends
returns-in-Err-BadWords-clause-ends g c =
    refused_words _ c.args.limits.now (g.D.Desk.view c.args.desk.now) (g.W.Sink.view c.args.out.now) (g.W.Sink.view c.args.out.now)
    (c.command_of.ensures.bad (c.in-Err-BadWords.is ∙ ap Err c.in-Err-BadWords.field-0-is)) (c.sink_grows.ensures.begin (g.W.Sink.view c.args.out.now))

pub returns-in-Err-NoMemory-clause-ends : goal.returns-in-Err-NoMemory-clause-ends
returns-in-Err-NoMemory-clause-ends g c =
    unread_words _ c.args.limits.now (g.D.Desk.view c.args.desk.now) (g.W.Sink.view c.args.out.now) (g.W.Sink.view c.args.out.now)
    (c.sink_grows.ensures.begin (g.W.Sink.view c.args.out.now))

pub returns-in-Ok-run_command-clause-ends : goal.returns-in-Ok-run_command-clause-ends
returns-in-Ok-run_command-clause-ends g c =
    printed_command _ c.args.limits.now (g.D.Desk.view c.args.desk.now) (g.W.Sink.view c.args.out.now) (g.W.Sink.view c.print.new.out)
    (g.D.Desk.view c.run_command.new.desk)
    (line_of c.in-Ok.command) c.in-Ok.ensures.command c.in-Ok-run_command.answer.status c.in-Ok-run_command.answer.text.items c.print.result
    c.in-Ok-run_command.ensures.answers c.print.ensures

pub returns-in-Err-clause-ends : goal.returns-in-Err-clause-ends
returns-in-Err-clause-ends g c =
    refused_command _ c.args.limits.now (g.D.Desk.view c.args.desk.now) (g.W.Sink.view c.args.out.now) (g.W.Sink.view c.args.out.now)
    (g.D.Desk.view c.run_command.new.desk)
    (line_of c.in-Ok.command) c.in-Ok.ensures.command c.in-Err.refusal c.in-Err.ensures.stops (c.sink_grows.ensures.begin (g.W.Sink.view c.args.out.now))
