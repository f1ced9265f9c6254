use Rattle.std.proofs.Common.{◌≡◌, ◌*◌, take, sum_by, count_ones}
use Rattle.dist_lanes.proofs.words.ones.Given as goal

abbrev pub invariant-loop-group : goal.invariant-loop-group
invariant-loop-group l = l.total ≡ sum_by count_ones (take (8 * l.group) l.words)

abbrev pub invariant-loop-at : goal.invariant-loop-at
invariant-loop-at l = l.total ≡ sum_by count_ones (take l.at l.words)
