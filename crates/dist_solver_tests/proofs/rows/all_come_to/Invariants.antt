use Rattle.std.proofs.Common.{◌≡◌}
use Rattle.dist_solver_tests.proofs.rows.all_come_to.Given as goal

abbrev pub invariant-loop-question : goal.invariant-loop-question
invariant-loop-question l = l.solver.log.variables ≡ 5
