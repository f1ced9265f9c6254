use Rattle.dist_relation.specs.EqualityPrivate.{answers_equality, items_decide}
use Rattle.dist_relation.proofs.lists.ItemsPartialEq.eq.Goals as goal

pub returns-clause-same : goal.returns-clause-same
returns-clause-same c = answers_equality items_decide c.eq.result _ _ c.args.self.now c.args.other.now c.eq.ensures c.self.view_is c.other.view_is
