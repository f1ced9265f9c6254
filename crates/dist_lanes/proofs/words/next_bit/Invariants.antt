use Rattle.std.proofs.Common.{◌*◌}
use Rattle.dist_lanes.specs.BitsPrivate.{AreClear}
use Rattle.dist_lanes.proofs.words.next_bit.Given as goal

abbrev pub invariant-loop-number : goal.invariant-loop-number
invariant-loop-number l = AreClear l.words l.from (64 * l.number)
