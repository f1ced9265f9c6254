use Rattle.std.proofs.Common.{◌≡◌}
use Rattle.dist_solver_tests.proofs.again.is_right.Given as goal

abbrev pub invariant-lines : goal.invariant-lines
invariant-lines l = l.solver.log.variables ≡ 20
