use Rattle.dist_derive.proofs.SettledLaws.{settled_new}
use Rattle.dist_derive.proofs.laws.settled_literals_make_new.Goals as goal

pub returns : goal.returns
returns c = settled_new
