use Rattle.std.proofs.Common.{◌-◌, length}
use Rattle.dist_derive.proofs.ReachLemmas.{MarksSoFar}
use Rattle.dist_derive.proofs.log.Log.mark.Given as goal

abbrev pub invariant-loop-index : goal.invariant-loop-index
invariant-loop-index l = MarksSoFar l.self.clauses l.inputs l.self.variables l.index l.assumptions l.cone l.done

abbrev pub decreases-loop-index : goal.decreases-loop-index
decreases-loop-index l = l.cone.variables - length l.cone.members
