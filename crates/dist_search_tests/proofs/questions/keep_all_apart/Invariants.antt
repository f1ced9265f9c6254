use Rattle.std.proofs.Common.{◌≡◌}
use Rattle.dist_search_tests.proofs.questions.keep_all_apart.Given as goal

abbrev pub invariant-loop-group : goal.invariant-loop-group
invariant-loop-group l = l.set.variables ≡ 21
