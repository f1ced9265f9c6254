use Rattle.std.proofs.Common.{◌≡◌, length}
use Rattle.dist_search_tests.proofs.clauses.are_models.Given as goal

abbrev pub invariant-loop-row : goal.invariant-loop-row
invariant-loop-row l = length l.values ≡ 5
