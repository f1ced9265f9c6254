use Rattle.dist_relation.specs.EqualityPrivate.{answers_equality, atoms_decide}
use Rattle.dist_relation.proofs.lists.AtomsPartialEq.eq.Goals as goal

pub returns-clause-same : goal.returns-clause-same
returns-clause-same c = answers_equality atoms_decide c.eq.result _ _ c.args.self.now c.args.other.now c.eq.ensures c.self.view_is c.other.view_is
