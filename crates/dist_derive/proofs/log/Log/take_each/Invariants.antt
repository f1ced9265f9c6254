use Rattle.std.proofs.Common.{◌-◌}
use Rattle.dist_derive.proofs.VisitLemmas.{TakenTo}
use Rattle.dist_derive.proofs.log.Log.take_each.Given as goal

abbrev pub invariant-loop-done : goal.invariant-loop-done
invariant-loop-done l = TakenTo l.self.clauses l.last l.initial.watches l.watches l.initial.literals l.literals l.done

abbrev pub decreases-loop-done : goal.decreases-loop-done
decreases-loop-done l = l.literals.variables - l.done
