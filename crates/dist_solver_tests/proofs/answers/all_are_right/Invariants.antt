use Rattle.std.proofs.Common.{◌≡◌}
use Rattle.dist_solver_tests.proofs.answers.all_are_right.Given as goal

abbrev pub invariant-rounds : goal.invariant-rounds
invariant-rounds l = l.solver.log.variables ≡ 5
