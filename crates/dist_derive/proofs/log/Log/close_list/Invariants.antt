use Rattle.dist_derive.proofs.ReachLemmas.{ClosesSoFar}
use Rattle.dist_derive.proofs.log.Log.close_list.Given as goal

abbrev pub invariant-loop-link : goal.invariant-loop-link
invariant-loop-link l = ClosesSoFar l.self.clauses l.inputs l.index.links l.latest l.place l.initial.cone l.cone

abbrev pub decreases-loop-link : goal.decreases-loop-link
decreases-loop-link l = l.place
