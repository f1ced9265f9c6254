use Rattle.std.proofs.Common.{arith}
use Rattle.dist_commands.proofs.Writing.{pieces_cut, cause_earlier}
use Rattle.dist_commands.proofs.pieces.write_pieces.Goals as goal

pub returns-in-Err : goal.returns-in-Err
returns-in-Err g c =
    let front = pieces_cut c.args.pieces.now c.loop-piece.piece-index _ (g.E.Sink.view c.args.err.now) (g.E.Sink.view c.loop-piece.err)
    (g.E.Sink.view c.write_whole.new.sink)
    (omega arith) c.sink_grows.ensures.cut c.sink_grows.ensures.longer c.loop-piece.invariant c.in-Err.ensures.front in (
      front,
      cause_earlier c.in-Err.error _ (g.E.Sink.view c.args.err.now) (g.E.Sink.view c.loop-piece.err) (g.E.Sink.view c.write_whole.new.sink)
          c.loop-piece.invariant c.in-Err.ensures.front.grew.faults_stand c.in-Err.ensures.front.grew.wants_stand c.in-Err.ensures.cause,
    )
