use Rattle.std.proofs.Common.{◌≤◌, length, take, ◌-◌}
use Rattle.dist_outside.specs.SinkView.{Grew}
use Rattle.dist_outside.proofs.whole.write_whole.Given as goal

-- the front that is done was taken
abbrev pub invariant-loop-done : goal.invariant-loop-done
invariant-loop-done g l = record {
  within : l.done ≤ length l.bytes;
  taken : Grew (take l.done l.bytes) (g.W.Sink.view l.fn.sink) (g.W.Sink.view l.sink);
}

abbrev pub decreases-loop-done : goal.decreases-loop-done
decreases-loop-done g l = length l.bytes - l.done
