use Rattle.dist_space_clauses.proofs.SomeSpaceClauses.{some-clauses}
use Rattle.dist_space_clauses.proofs.clause_laws.space_clauses_are_there.Goals as goal

pub returns : goal.returns
returns c = some-clauses
