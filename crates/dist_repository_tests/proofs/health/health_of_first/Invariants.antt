use Rattle.std.proofs.Common.{◌≡◌, length}
use Rattle.dist_repository_tests.proofs.health.health_of_first.Given as goal

-- one truth value for each package
abbrev pub invariant-loop-number : goal.invariant-loop-number
invariant-loop-number l = length l.members ≡ length l.repository.packages
