use Rattle.std.proofs.Common.{◌≡◌}
use Rattle.dist_solver_tests.proofs.again.push_hub.Given as goal

abbrev pub invariant-clauses : goal.invariant-clauses
invariant-clauses l = l.set.variables ≡ 20

abbrev pub invariant-needs : goal.invariant-needs
invariant-needs l = l.set.variables ≡ 20
