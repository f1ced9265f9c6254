use Rattle.dist_repo.proofs.EachOnce.{fewer-packages, fewer-relations, one-list}
use Rattle.dist_repo.proofs.laws.each_stands_once.Goals as goal

pub returns-clause-packages : goal.returns-clause-packages
returns-clause-packages c = fewer-packages

pub returns-clause-relations : goal.returns-clause-relations
returns-clause-relations c = fewer-relations

pub returns-clause-same : goal.returns-clause-same
returns-clause-same c = one-list
