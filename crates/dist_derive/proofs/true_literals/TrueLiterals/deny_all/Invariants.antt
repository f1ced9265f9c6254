use Rattle.std.proofs.Common.{true, map, take}
use Rattle.dist_clause.specs.Formula.{negation}
use Rattle.dist_derive.specs.AssumePrivate.{AssumesAll}
use Rattle.dist_derive.proofs.true_literals.TrueLiterals.deny_all.Given as goal

abbrev pub invariant-loop-literal : goal.invariant-loop-literal
invariant-loop-literal l = AssumesAll l.initial.self l.self (map negation (take l.literal-index l.clause)) true
