use Rattle.std.proofs.Common.{◌≡◌, length}
use Rattle.dist_lanes_tests.proofs.assignments.assigned.Given as goal

abbrev pub invariant-loop-variable : goal.invariant-loop-variable
invariant-loop-variable l = length l.values ≡ l.variables
