use Rattle.dist_clause.specs.DemandLaws.{one-list}
use Rattle.dist_space_clauses.specs.SpaceClauses.{IsDemand, space_demands}
use Rattle.dist_space_clauses.proofs.DemandOrder.{orderly}
use Rattle.dist_space_clauses.proofs.clause_laws.space_clauses_are_one.Goals as goal

pub returns : goal.returns
returns c = λ s. one-list (space_demands s) (orderly s) (IsDemand s)
