use Rattle.std.proofs.Common.{◌≡◌}
use Rattle.dist_solver_tests.proofs.small_sets.all_agree.Given as goal

abbrev pub invariant-questions : goal.invariant-questions
invariant-questions l = l.solver.log.variables ≡ 5
