use Rattle.dist_now.specs.PresentClauses.{Item}
use Rattle.dist_explain.specs.RelationListPrivate.{AreListedBefore}
use Rattle.dist_explain.proofs.relations.add_items_of.Given as goal

abbrev pub invariant-loop-place : goal.invariant-loop-place
invariant-loop-place l = AreListedBefore l.repo (Item l.number l.place) l.list.items
