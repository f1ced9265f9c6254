use Rattle.std.proofs.Common.{◌≡◌, take}
use Rattle.dist_cert.specs.Accepted.{pairs_from_zero}
use Rattle.dist_challenge.proofs.challenged_claimant.from_zero.Given as goal

abbrev pub invariant-loop-pair : goal.invariant-loop-pair
invariant-loop-pair l = l.less.items ≡ pairs_from_zero (take l.pair-index l.pairs)
