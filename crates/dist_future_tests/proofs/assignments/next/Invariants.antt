use Rattle.std.specs.Prelude.{◌≡◌, length}
use Rattle.dist_future_tests.proofs.assignments.next.Given as goal

-- as many values as before
abbrev pub invariant-loop-place : goal.invariant-loop-place
invariant-loop-place l = length l.members ≡ l.variables
