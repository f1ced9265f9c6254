use Rattle.std.proofs.Common.{true, take}
use Rattle.dist_derive.specs.AssumePrivate.{AssumesAll}
use Rattle.dist_derive.proofs.true_literals.TrueLiterals.assume_all.Given as goal

abbrev pub invariant-loop-literal : goal.invariant-loop-literal
invariant-loop-literal l = AssumesAll l.initial.self l.self (take l.literal-index l.literals) true
