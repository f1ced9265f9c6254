use Rattle.dist_future.specs.FutureHealth.{IsOneEach}
use Rattle.dist_future_tests.proofs.assignments.make_all_true.Given as goal

-- one truth value per variable
abbrev pub invariant-loop-variable : goal.invariant-loop-variable
invariant-loop-variable l = IsOneEach l.space l.members
