use Rattle.std.proofs.Common.{◌≡◌}
use Rattle.dist_solver_tests.proofs.pigeons.add_crowd.Given as goal

abbrev pub invariant-loop-pigeon : goal.invariant-loop-pigeon
invariant-loop-pigeon l = l.set.variables ≡ l.fn.set.variables
