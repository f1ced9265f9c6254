use Rattle.std.proofs.Common.{take}
use Rattle.std.specs.List.{flat_map}
use Rattle.dist_outside.specs.SinkView.{Grew}
use Rattle.dist_commands.proofs.pieces.write_pieces.Given as goal

abbrev pub invariant-loop-piece : goal.invariant-loop-piece
invariant-loop-piece g l = Grew (flat_map (λ piece. piece.now) (take l.piece-index l.pieces)) (g.E.Sink.view l.initial.err) (g.E.Sink.view l.err)
