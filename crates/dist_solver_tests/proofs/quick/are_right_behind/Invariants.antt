use Rattle.dist_clause.specs.Formula.{IsClauseOver}
use Rattle.dist_solver_tests.proofs.quick.are_right_behind.Given as goal

abbrev pub invariant-assumptions : goal.invariant-assumptions
invariant-assumptions l = IsClauseOver 5 l.assumptions.items
