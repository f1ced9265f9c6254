use Rattle.dist_asked.proofs.MarkLemmas.{AreAllTo}
use Rattle.dist_asked.proofs.placed.placed_in_item.Given as goal

-- the atoms so far are there
abbrev pub invariant-loop-place : goal.invariant-loop-place
invariant-loop-place l = AreAllTo l.item l.placed.items l.place
