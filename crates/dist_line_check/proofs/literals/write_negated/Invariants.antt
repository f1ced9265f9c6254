use Rattle.std.proofs.Common.{◌≡◌, map, take}
use Rattle.dist_clause.specs.Formula.{negation}
use Rattle.dist_cert.specs.Groups.{clause_of}
use Rattle.dist_line_check.proofs.literals.write_negated.Given as goal

abbrev pub invariant-loop-literal : goal.invariant-loop-literal
invariant-loop-literal l = l.clause.items ≡ map negation (clause_of (take l.literal-index l.literals))
