use Rattle.std.proofs.Common.{◌≡◌}
use Rattle.dist_clause.specs.Formula.{IsClauseOver}
use Rattle.dist_solver_tests.proofs.answers.are_right_behind.Given as goal

abbrev pub invariant-questions : goal.invariant-questions
invariant-questions l = (l.solver.log.variables ≡ 5) × IsClauseOver 5 l.assumptions.items
