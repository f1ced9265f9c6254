use Rattle.std.proofs.Common.{◌≡◌}
use Rattle.dist_solver.proofs.tested.gather.Given as goal

abbrev pub invariant-loop-variable : goal.invariant-loop-variable
invariant-loop-variable l = l.set.variables ≡ l.initial.set.variables
