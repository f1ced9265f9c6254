use Rattle.std.proofs.Common.{◌≡◌}
use Rattle.dist_search_tests.proofs.derived_lines.are_appended.Given as goal

abbrev pub invariant-loop-row : goal.invariant-loop-row
invariant-loop-row l = l.log.variables ≡ 5
