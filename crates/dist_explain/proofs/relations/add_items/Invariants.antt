use Rattle.dist_now.specs.PresentClauses.{Item}
use Rattle.dist_explain.specs.RelationListPrivate.{AreListedBefore}
use Rattle.dist_explain.proofs.relations.add_items.Given as goal

abbrev pub invariant-loop-number : goal.invariant-loop-number
invariant-loop-number l = AreListedBefore l.repo (Item l.number 0) l.list.items
