use Rattle.dist_now.proofs.DemandLists.{goes-on-of}
use Rattle.dist_now.proofs.present_laws.present_clauses_go_on.Goals as goal

pub returns : goal.returns
returns c = goes-on-of
