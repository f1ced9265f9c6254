use Rattle.dist_clause.specs.Formula.{IsClauseOver}
use Rattle.dist_solver_tests.proofs.small_sets.draw_clause.Given as goal

abbrev pub invariant-literals : goal.invariant-literals
invariant-literals l = IsClauseOver l.variables l.clause.items
