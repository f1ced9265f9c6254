use Rattle.dist_now.proofs.SomeClauses.{some-clauses}
use Rattle.dist_now.proofs.present_laws.present_clauses_are_there.Goals as goal

pub returns : goal.returns
returns c = some-clauses
