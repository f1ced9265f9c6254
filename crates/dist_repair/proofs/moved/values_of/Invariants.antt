use Rattle.std.proofs.Common.{take}
use Rattle.dist_repair.proofs.MovedLemmas.{AreTruth}
use Rattle.dist_repair.proofs.moved.values_of.Given as goal

abbrev pub invariant-loop-member : goal.invariant-loop-member
invariant-loop-member l = AreTruth l.variables (take l.member-index l.members) l.values
