use Rattle.std.proofs.Common.{take}
use Rattle.dist_derive.specs.Propagation.{OthersFalse}
use Rattle.dist_derive.proofs.true_literals.TrueLiterals.free_in.Given as goal

abbrev pub invariant-loop-place : goal.invariant-loop-place
invariant-loop-place l = OthersFalse l.self.literals (take l.place l.literals) l.one
