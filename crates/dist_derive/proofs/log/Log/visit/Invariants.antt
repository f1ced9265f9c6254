use Rattle.dist_derive.proofs.QueueLemmas.{VisitsSoFar}
use Rattle.dist_derive.proofs.log.Log.visit.Given as goal

abbrev pub invariant-loop-link : goal.invariant-loop-link
invariant-loop-link l = VisitsSoFar l.self.clauses l.last l.index.links l.latest l.place l.initial.literals l.literals

abbrev pub decreases-loop-link : goal.decreases-loop-link
decreases-loop-link l = l.place
