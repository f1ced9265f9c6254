use Rattle.dist_derive.proofs.ConeLaws.{cone_model}
use Rattle.dist_derive.proofs.laws.cone_models_extend.Goals as goal

pub returns : goal.returns
returns c = cone_model
