use Rattle.std.proofs.Common.{◌≡◌}
use Rattle.dist_search_tests.proofs.derived_lines.follow.Given as goal

abbrev pub invariant-loop-row : goal.invariant-loop-row
invariant-loop-row l = l.scratch ≡ 5
