use Rattle.std.proofs.Common.{◌≡◌}
use Rattle.dist_solver_tests.proofs.pigeons.is_apart.Given as goal

abbrev pub invariant-loop-pair : goal.invariant-loop-pair
invariant-loop-pair l = l.set.variables ≡ l.fn.set.variables
