use Rattle.dist_archive.proofs.SlotLemmas.{ArePutSoFar}
use Rattle.dist_archive.proofs.slots.Slots.put_all.Given as goal

abbrev pub invariant-loop-slot : goal.invariant-loop-slot
invariant-loop-slot l = ArePutSoFar l.numbers l.initial.slots.items l.slots.items l.initial.self l.self

abbrev pub decreases-loop-slot : goal.decreases-loop-slot
decreases-loop-slot l = goal.left-loop-slot l
