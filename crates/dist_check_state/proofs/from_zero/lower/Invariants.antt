use Rattle.std.proofs.Common.{◌≡◌, ◌++◌, drop, take}
use Rattle.dist_cert.specs.Accepted.{from_zero}
use Rattle.dist_check_state.proofs.from_zero.lower.Given as goal

abbrev pub invariant-loop-number : goal.invariant-loop-number
invariant-loop-number l = l.numbers ≡ from_zero (take l.number-index l.initial.numbers) ++ drop l.number-index l.initial.numbers
