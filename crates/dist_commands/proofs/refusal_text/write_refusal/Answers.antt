use Rattle.std.proofs.Common.{◌++◌, codes}
use Rattle.dist_commands.specs.Refusal.{reason_text}
use Rattle.dist_commands.proofs.Writing.{writes_then, writes_cut}
use Rattle.dist_commands.proofs.refusal_text.write_refusal.Goals as goal

pub returns-in-Ok : goal.returns-in-Ok
returns-in-Ok g c =
    writes_then (codes "distfuture: ") (reason_text c.args.refusal ++ codes "\n") c.write_ended.result (g.E.Sink.view c.args.err.now)
    (g.E.Sink.view c.write_whole.new.sink) (g.E.Sink.view c.write_ended.new.err)
    c.sink_grows.ensures.twice c.sink_grows.ensures.cut c.in-Ok.ensures.all c.write_ended.ensures

pub returns-in-Err : goal.returns-in-Err
returns-in-Err g c =
    writes_cut (codes "distfuture: ") (reason_text c.args.refusal ++ codes "\n") c.in-Err.error (g.E.Sink.view c.args.err.now)
    (g.E.Sink.view c.write_whole.new.sink)
    c.sink_grows.ensures.longer (c.in-Err.ensures.front, c.in-Err.ensures.cause)
