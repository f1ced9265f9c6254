use Rattle.std.proofs.Common.{◌≡◌}
use Rattle.dist_solver_tests.proofs.tested.are_lines_behind.Given as goal

abbrev pub invariant-loop-place : goal.invariant-loop-place
invariant-loop-place l = l.scratch ≡ l.initial.scratch
