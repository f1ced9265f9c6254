use Rattle.dist_derive.proofs.SweepLemmas.{SweepsSoFar}
use Rattle.dist_derive.proofs.log.Log.sweep.Given as goal

abbrev pub invariant-loop-place : goal.invariant-loop-place
invariant-loop-place l = SweepsSoFar l.self.clauses l.last l.first l.place l.initial.literals l.literals l.grown
