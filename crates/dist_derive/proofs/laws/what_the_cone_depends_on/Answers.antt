use Rattle.dist_derive.proofs.ConeLaws.{cone_of_inputs, cone_grows, reaches_outside}
use Rattle.dist_derive.proofs.laws.what_the_cone_depends_on.Goals as goal

pub returns : goal.returns
returns c = record { inputs = cone_of_inputs; assumptions = cone_grows; outside = reaches_outside }
