use Rattle.dist_lanes.proofs.LanesLemmas.{lanes-within}
use Rattle.dist_lanes.proofs.words.lanes_are_within.Goals as goal

pub returns : goal.returns
returns c = lanes-within c.args.words.now c.args.others.now c.args.at c.requires.words c.requires.others
