use Rattle.std.proofs.Common.{◌≡◌, take, map}
use Rattle.dist_clause.specs.Formula.{negation}
use Rattle.dist_derive.proofs.true_literals.TrueLiterals.deny.Given as goal

abbrev pub invariant-loop-literal : goal.invariant-loop-literal
invariant-loop-literal l = l.self ≡ record l.initial.self { literals = map negation (take l.literal-index l.clause) }
