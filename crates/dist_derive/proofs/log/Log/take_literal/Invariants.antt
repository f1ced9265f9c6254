use Rattle.std.proofs.Common.{◌-◌, length}
use Rattle.dist_derive.specs.Watches.{list_of}
use Rattle.dist_derive.proofs.VisitLemmas.{ComesTo}
use Rattle.dist_derive.proofs.log.Log.take_literal.Given as goal

abbrev pub invariant-loop-number : goal.invariant-loop-number
invariant-loop-number l = ComesTo l.self.clauses l.last l.done l.literal l.initial.watches l.watches l.initial.literals l.literals l.place

abbrev pub decreases-loop-number : goal.decreases-loop-number
decreases-loop-number l = length (list_of l.watches l.literal) - l.place
