use Rattle.std.proofs.Common.{◌≡◌}
use Rattle.dist_solver_tests.proofs.quick.push_all_numbers.Given as goal

abbrev pub invariant-loop-numbers : goal.invariant-loop-numbers
invariant-loop-numbers l = l.set.variables ≡ 5
