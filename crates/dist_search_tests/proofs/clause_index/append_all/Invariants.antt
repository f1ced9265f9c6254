use Rattle.std.proofs.Common.{◌≡◌}
use Rattle.dist_search_tests.proofs.clause_index.append_all.Given as goal

abbrev pub invariant-loop-line : goal.invariant-loop-line
invariant-loop-line l = l.log.variables ≡ 5
