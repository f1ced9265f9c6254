use Rattle.std.proofs.Common.{◌-◌, length}
use Rattle.dist_derive.proofs.QueueLemmas.{TakesSoFar}
use Rattle.dist_derive.proofs.log.Log.propagate.Given as goal

abbrev pub invariant-loop-index : goal.invariant-loop-index
invariant-loop-index l = TakesSoFar l.self.clauses l.last l.index l.fn.literals l.literals l.done

abbrev pub decreases-loop-index : goal.decreases-loop-index
decreases-loop-index l = l.literals.variables - length l.literals.literals
