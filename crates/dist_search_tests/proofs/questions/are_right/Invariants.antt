use Rattle.std.proofs.Common.{◌≡◌}
use Rattle.dist_search_tests.proofs.questions.are_right.Given as goal

abbrev pub invariant-loop-turn : goal.invariant-loop-turn
invariant-loop-turn l = l.solver.log.variables ≡ 21
