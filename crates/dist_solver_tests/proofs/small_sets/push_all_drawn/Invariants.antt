use Rattle.std.proofs.Common.{◌≡◌}
use Rattle.dist_solver_tests.proofs.small_sets.push_all_drawn.Given as goal

abbrev pub invariant-clauses : goal.invariant-clauses
invariant-clauses l = l.set.variables ≡ l.fn.set.variables
