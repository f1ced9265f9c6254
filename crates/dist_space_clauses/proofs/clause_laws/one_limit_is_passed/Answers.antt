use Rattle.dist_space_clauses.proofs.DemandOrder.{one-limit}
use Rattle.dist_space_clauses.proofs.clause_laws.one_limit_is_passed.Goals as goal

pub returns : goal.returns
returns c = one-limit
