use Rattle.std.proofs.Common.{◌≡◌, length}
use Rattle.dist_solver_tests.proofs.small_sets.finds_model.Given as goal

abbrev pub invariant-loop-bits : goal.invariant-loop-bits
invariant-loop-bits l = length l.values ≡ 5
