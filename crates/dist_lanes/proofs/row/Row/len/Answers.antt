use Rattle.dist_lanes.proofs.RowLemmas.{length-of}
use Rattle.dist_lanes.proofs.row.Row.len.Goals as goal

pub returns : goal.returns
returns c = length-of c.self.inside.words.items c.self.inside.places c.args.self.now c.self.view_is
