use Rattle.dist_lanes.proofs.LanesLemmas.{lanes-zero}
use Rattle.dist_lanes.proofs.words.lanes_are_zero.Goals as goal

pub returns : goal.returns
returns c = lanes-zero c.args.words.now c.args.at c.requires
