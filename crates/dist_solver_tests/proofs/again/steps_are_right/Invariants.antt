use Rattle.std.proofs.Common.{◌≡◌}
use Rattle.dist_solver_tests.proofs.again.steps_are_right.Given as goal

abbrev pub invariant-questions : goal.invariant-questions
invariant-questions l = l.solver.log.variables ≡ 20
