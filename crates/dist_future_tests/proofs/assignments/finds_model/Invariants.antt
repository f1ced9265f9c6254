use Rattle.dist_future.specs.FutureHealth.{IsOneEach}
use Rattle.dist_future_tests.proofs.assignments.finds_model.Given as goal

-- one truth value per variable
abbrev pub invariant-loop-round : goal.invariant-loop-round
invariant-loop-round l = IsOneEach l.space l.members
