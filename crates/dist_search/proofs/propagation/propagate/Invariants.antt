use Rattle.std.proofs.Common.{◌-◌}
use Rattle.dist_search.proofs.TakeLemmas.{TakenTo}
use Rattle.dist_search.proofs.propagation.propagate.Given as goal

abbrev pub invariant-loop-literal : goal.invariant-loop-literal
invariant-loop-literal l = TakenTo l.log.clauses l.cone.members l.fn.watches l.watches l.fn.trail l.trail

abbrev pub decreases-loop-literal : goal.decreases-loop-literal
decreases-loop-literal l = l.trail.variables - l.trail.head
