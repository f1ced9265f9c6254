use Rattle.std.proofs.Common.{◌≡◌}
use Rattle.dist_search_tests.proofs.clauses.are_pushed.Given as goal

abbrev pub invariant-loop-row : goal.invariant-loop-row
invariant-loop-row l = l.set.variables ≡ 5
