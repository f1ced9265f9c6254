use Rattle.std.proofs.Common.{◌≡◌, ◌++◌, drop, take}
use Rattle.dist_cert.specs.Accepted.{pairs_from_zero}
use Rattle.dist_check_state.proofs.from_zero.lower_pairs.Given as goal

abbrev pub invariant-loop-pair : goal.invariant-loop-pair
invariant-loop-pair l = l.pairs ≡ pairs_from_zero (take l.pair-index l.initial.pairs) ++ drop l.pair-index l.initial.pairs
