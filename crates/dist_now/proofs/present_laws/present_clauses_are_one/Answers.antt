use Rattle.dist_clause.specs.DemandLaws.{one-list}
use Rattle.dist_now.specs.PresentClauses.{IsDemand, present_demands}
use Rattle.dist_now.proofs.DemandLists.{orderly}
use Rattle.dist_now.proofs.present_laws.present_clauses_are_one.Goals as goal

pub returns : goal.returns
returns c = λ r essential. one-list (present_demands r) (orderly r) (IsDemand r essential)
