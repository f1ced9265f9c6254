use Rattle.std.proofs.Common.{◌-◌, length}
use Rattle.dist_derive.specs.Watches.{list_of}
use Rattle.dist_search.proofs.TakeLemmas.{ComesTo}
use Rattle.dist_search.proofs.propagation.take_literal.Given as goal

abbrev pub invariant-loop-number : goal.invariant-loop-number
invariant-loop-number l = ComesTo l.log.clauses l.cone.members (l.fn.trail.head - 1) l.literal l.fn.watches l.watches l.fn.trail l.trail l.place

abbrev pub decreases-loop-number : goal.decreases-loop-number
decreases-loop-number l = length (list_of l.watches l.literal) - l.place
