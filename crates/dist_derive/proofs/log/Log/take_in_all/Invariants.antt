use Rattle.dist_derive.proofs.GuardLemmas.{TakesIn}
use Rattle.dist_derive.proofs.log.Log.take_in_all.Given as goal

abbrev pub invariant-loop-place : goal.invariant-loop-place
invariant-loop-place l = TakesIn l.self.clauses l.last l.done l.place l.initial.watches l.watches l.initial.literals l.literals
