use Rattle.std.proofs.Common.{◌*◌}
use Rattle.dist_lanes.proofs.LanesLemmas.{AreWithin}
use Rattle.dist_lanes.proofs.words.are_within.Given as goal

abbrev pub invariant-loop-group : goal.invariant-loop-group
invariant-loop-group l = AreWithin l.words l.others 0 (8 * l.group)

abbrev pub invariant-loop-at : goal.invariant-loop-at
invariant-loop-at l = AreWithin l.words l.others 0 l.at
