use Rattle.dist_clause.specs.Formula.{IsClauseOver}
use Rattle.dist_solver_tests.proofs.quick.add_numbers.Given as goal

abbrev pub invariant-loop-number : goal.invariant-loop-number
invariant-loop-number l = IsClauseOver 5 l.clause.items
