use Rattle.std.proofs.Common.{◌≡◌, take}
use Rattle.dist_cert.specs.Accepted.{from_zero}
use Rattle.dist_strong.proofs.claiming.from_zero.Given as goal

abbrev pub invariant-loop-number : goal.invariant-loop-number
invariant-loop-number l = l.less.items ≡ from_zero (take l.number-index l.numbers)
