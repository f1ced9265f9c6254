use Rattle.std.proofs.Common.{◌*◌}
use Rattle.dist_lanes.proofs.WordsLemmas.{AndedUpTo}
use Rattle.dist_lanes.proofs.words.and_words.Given as goal

abbrev pub invariant-loop-group : goal.invariant-loop-group
invariant-loop-group l = AndedUpTo l.fn.words l.others l.words (8 * l.group)

abbrev pub invariant-loop-at : goal.invariant-loop-at
invariant-loop-at l = AndedUpTo l.fn.words l.others l.words l.at
