use Rattle.std.proofs.Common.{◌≡◌}
use Rattle.dist_search_tests.proofs.questions.agrees_always.Given as goal

abbrev pub invariant-loop-code : goal.invariant-loop-code
invariant-loop-code l = l.solver.log.variables ≡ 21
