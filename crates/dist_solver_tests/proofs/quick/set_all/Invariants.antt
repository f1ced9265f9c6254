use Rattle.std.proofs.Common.{◌≡◌, length}
use Rattle.dist_solver_tests.proofs.quick.set_all.Given as goal

abbrev pub invariant-loop-variable : goal.invariant-loop-variable
invariant-loop-variable l = length l.values ≡ length l.fn.values
