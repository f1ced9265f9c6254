use Rattle.std.proofs.Common.{take}
use Rattle.dist_derive.specs.ContainmentPrivate.{ContainsAll}
use Rattle.dist_derive.proofs.true_literals.TrueLiterals.are_true.Given as goal

abbrev pub invariant-loop-literal : goal.invariant-loop-literal
invariant-loop-literal l = ContainsAll l.self.literals (take l.literal-index l.literals)
