use Rattle.std.proofs.Common.{◌≡◌}
use Rattle.dist_search_tests.proofs.clause_index.include.Given as goal

abbrev pub invariant-loop-variable : goal.invariant-loop-variable
invariant-loop-variable l = l.trues.variables ≡ 5
