use Rattle.std.proofs.Common.{subst}
use Rattle.dist_derive.specs.Follows.{EachLineFollows}
use Rattle.dist_solver.specs.Derived.{SolverState}
use Rattle.dist_solver.proofs.search.Solver.log.Goals as goal

pub returns-clause-lines_follow : goal.returns-clause-lines_follow
returns-clause-lines_follow c = subst (λ (s : SolverState). EachLineFollows s.log.inputs s.log.clauses) c.self.view_is c.self.invariant.lines_follow
