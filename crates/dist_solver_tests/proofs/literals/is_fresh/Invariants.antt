use Rattle.std.proofs.Common.{◌≢◌, take}
use Rattle.std.specs.List.{All}
use Rattle.dist_solver_tests.proofs.literals.is_fresh.Given as goal

abbrev pub invariant-loop-literal : goal.invariant-loop-literal
invariant-loop-literal l = All (λ m. m.variable ≢ l.variable) (take l.literal-index l.clause)
