use Rattle.dist_now.specs.GatheringPrivate.{IsFront}
use Rattle.dist_now.specs.PresentClauses.{Item}
use Rattle.dist_now.proofs.present_clauses.push_items.Given as goal

-- the clauses before this package's items are there
abbrev pub invariant-loop-number : goal.invariant-loop-number
invariant-loop-number l = IsFront l.repo (Item l.number 0) l.initial.set l.set
