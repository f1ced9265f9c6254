use Rattle.std.proofs.Common.{◌≤◌, length, take, ◌-◌}
use Rattle.dist_outside.specs.DeskView.{FileGrew}
use Rattle.dist_outside.proofs.whole.desk_write_whole.Given as goal

-- the front that is done was taken
abbrev pub invariant-loop-done : goal.invariant-loop-done
invariant-loop-done g l = record {
  within : l.done ≤ length l.bytes;
  taken : FileGrew (take l.done l.bytes) (g.D.Desk.view l.fn.desk) (g.D.Desk.view l.desk);
}

abbrev pub decreases-loop-done : goal.decreases-loop-done
decreases-loop-done g l = length l.bytes - l.done
