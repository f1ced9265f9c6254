use Rattle.std.proofs.Common.{◌*◌, ◌+◌}
use Rattle.dist_lanes.proofs.LanesLemmas.{AreZero}
use Rattle.dist_lanes.proofs.words.pass_zeros.Given as goal

abbrev pub invariant-loop-group : goal.invariant-loop-group
invariant-loop-group l = AreZero l.words l.from (l.from + 8 * l.group)
