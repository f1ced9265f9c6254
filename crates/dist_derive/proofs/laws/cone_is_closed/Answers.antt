use Rattle.dist_derive.proofs.ConeLaws.{assumptions_in_cone, cone_closed}
use Rattle.dist_derive.proofs.laws.cone_is_closed.Goals as goal

pub returns : goal.returns
returns c = record { assumed = assumptions_in_cone; closed = cone_closed }
