use Rattle.std.proofs.Common.{◌-◌}
use Rattle.dist_derive.proofs.QueueLemmas.{TakesSoFar}
use Rattle.dist_derive.proofs.log.Log.take_literals.Given as goal

abbrev pub invariant-loop-done : goal.invariant-loop-done
invariant-loop-done l = TakesSoFar l.self.clauses l.last l.index l.initial.literals l.literals l.done

abbrev pub decreases-loop-done : goal.decreases-loop-done
decreases-loop-done l = l.literals.variables - l.done
