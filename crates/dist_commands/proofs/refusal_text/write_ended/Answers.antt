use Rattle.std.proofs.Common.{codes}
use Rattle.dist_commands.specs.Refusal.{reason_text}
use Rattle.dist_commands.proofs.Writing.{writes_then, writes_cut, whole_writes}
use Rattle.dist_commands.proofs.refusal_text.write_ended.Goals as goal

pub returns-in-Ok : goal.returns-in-Ok
returns-in-Ok g c =
    writes_then (reason_text c.args.refusal) (codes "\n") c.write_whole.result (g.E.Sink.view c.args.err.now) (g.E.Sink.view c.write_reason.new.err)
    (g.E.Sink.view c.write_whole.new.sink)
    c.sink_grows.ensures.twice c.sink_grows.ensures.cut c.in-Ok.ensures
    (whole_writes (codes "\n") c.write_whole.result (g.E.Sink.view c.write_reason.new.err) (g.E.Sink.view c.write_whole.new.sink)
    c.write_whole.ensures.all c.write_whole.ensures.front c.write_whole.ensures.cause)

pub returns-in-Err : goal.returns-in-Err
returns-in-Err g c =
    writes_cut (reason_text c.args.refusal) (codes "\n") c.in-Err.error (g.E.Sink.view c.args.err.now) (g.E.Sink.view c.write_reason.new.err)
    c.sink_grows.ensures.longer c.in-Err.ensures
