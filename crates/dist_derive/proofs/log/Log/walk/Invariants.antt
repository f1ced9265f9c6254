use Rattle.dist_derive.proofs.ReachLemmas.{WalksSoFar}
use Rattle.dist_derive.proofs.log.Log.walk.Given as goal

abbrev pub invariant-loop-place : goal.invariant-loop-place
invariant-loop-place l = WalksSoFar l.self.clauses l.inputs l.first l.place l.initial.cone l.cone l.grown
