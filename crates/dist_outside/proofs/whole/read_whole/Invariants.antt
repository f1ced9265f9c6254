use Rattle.std.proofs.Common.{◌<◌, ◌≤◌, length, ◌-◌, vec_len}
use Rattle.dist_outside.specs.SoFarPrivate.{SoFar}
use Rattle.dist_outside.specs.DeskView.{OnlyReads}
use Rattle.dist_outside.proofs.whole.read_whole.Given as goal

-- these bytes of the file were read, and they are within the limit
abbrev pub invariant-loop-bytes : goal.invariant-loop-bytes
invariant-loop-bytes g l = record {
  so_far : SoFar (g.D.Desk.view l.desk).files (g.D.Desk.view l.desk).mode l.name l.bytes.items;
  within : length l.bytes.items ≤ l.limit;
  buffer : 0 < vec_len l.buffer;
  desk : OnlyReads (g.D.Desk.view l.fn.desk) (g.D.Desk.view l.desk);
}

abbrev pub decreases-loop-bytes : goal.decreases-loop-bytes
decreases-loop-bytes g l = l.limit - length l.bytes.items
