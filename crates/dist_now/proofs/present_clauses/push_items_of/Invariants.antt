use Rattle.dist_now.specs.GatheringPrivate.{IsFront}
use Rattle.dist_now.specs.PresentClauses.{Item}
use Rattle.dist_now.proofs.present_clauses.push_items_of.Given as goal

-- the clauses before this item's are there
abbrev pub invariant-loop-place : goal.invariant-loop-place
invariant-loop-place l = IsFront l.repo (Item l.number l.place) l.initial.set l.set
