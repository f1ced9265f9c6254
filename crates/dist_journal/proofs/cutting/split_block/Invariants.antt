use Rattle.std.proofs.Common.{◌+◌, ◌≤◌, length}
use Rattle.dist_journal.specs.CutPrivate.{IsCutTo}
use Rattle.dist_journal.proofs.cutting.split_block.Given as goal

abbrev pub invariant-loop-after : goal.invariant-loop-after
invariant-loop-after l = record {
  cut : IsCutTo l.bytes l.rest l.count;
  counted : l.count + length l.rest ≤ length l.bytes;
}

abbrev pub decreases-loop-after : goal.decreases-loop-after
decreases-loop-after l = length l.rest
