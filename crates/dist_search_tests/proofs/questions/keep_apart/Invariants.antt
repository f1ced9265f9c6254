use Rattle.std.proofs.Common.{◌≡◌}
use Rattle.dist_search_tests.proofs.questions.keep_apart.Given as goal

abbrev pub invariant-loop-place : goal.invariant-loop-place
invariant-loop-place l = l.set.variables ≡ 21
