use Rattle.std.proofs.Common.{◌≡◌}
use Rattle.dist_search_tests.proofs.questions.exclude.Given as goal

abbrev pub invariant-loop-other : goal.invariant-loop-other
invariant-loop-other l = l.set.variables ≡ 21
