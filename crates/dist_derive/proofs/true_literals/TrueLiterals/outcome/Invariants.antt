use Rattle.std.proofs.Common.{take}
use Rattle.dist_derive.specs.TrueLiterals.{HasOutcome}
use Rattle.dist_derive.proofs.true_literals.TrueLiterals.outcome.Given as goal

abbrev pub invariant-loop-literal : goal.invariant-loop-literal
invariant-loop-literal l = HasOutcome l.self.literals (take l.literal-index l.clause) l.outcome
