use Rattle.std.proofs.Common.{length, drop}
use Rattle.dist_derive.proofs.MarkedLemmas.{AreLeft}
use Rattle.dist_derive.proofs.variable_set.unmark.Given as goal

abbrev pub invariant-loop-member : goal.invariant-loop-member
invariant-loop-member l = AreLeft l.marks (drop l.member-index l.members) (length l.initial.marks)
