use Rattle.dist_clause.specs.Formula.{IsClauseOver}
use Rattle.dist_solver_tests.proofs.literals.add_all.Given as goal

abbrev pub invariant-loop-literal : goal.invariant-loop-literal
invariant-loop-literal l = IsClauseOver l.variables l.clause.items
