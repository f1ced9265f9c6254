use Rattle.dist_clause.specs.Formula.{IsClauseOver}
use Rattle.dist_search_tests.proofs.questions.negated.Given as goal

abbrev pub invariant-loop-literal : goal.invariant-loop-literal
invariant-loop-literal l = IsClauseOver 21 l.negated.items
