use Rattle.dist_lanes.proofs.LanesLemmas.{lanes-meet}
use Rattle.dist_lanes.proofs.words.lanes_meet.Goals as goal

pub returns : goal.returns
returns c = lanes-meet c.args.words.now c.args.others.now c.args.at c.requires.words c.requires.others
