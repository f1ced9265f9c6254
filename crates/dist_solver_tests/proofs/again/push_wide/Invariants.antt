use Rattle.dist_clause.specs.Formula.{IsClauseOver}
use Rattle.dist_solver_tests.proofs.again.push_wide.Given as goal

abbrev pub invariant-literals : goal.invariant-literals
invariant-literals l = IsClauseOver 20 l.clause.items
