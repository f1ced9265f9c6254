use Rattle.dist_now.proofs.RelationLemmas.{have-clauses, one-relations, some-relations}
use Rattle.dist_now.proofs.present_laws.relations_have_clauses.Goals as goal

pub returns-clause-there : goal.returns-clause-there
returns-clause-there c = some-relations

pub returns-clause-one : goal.returns-clause-one
returns-clause-one c = one-relations

pub returns-clause-clauses : goal.returns-clause-clauses
returns-clause-clauses c = have-clauses
