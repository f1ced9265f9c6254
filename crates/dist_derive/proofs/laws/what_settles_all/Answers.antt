use Rattle.dist_derive.proofs.SafeLaws.{outside_settles}
use Rattle.dist_derive.proofs.laws.what_settles_all.Goals as goal

pub returns : goal.returns
returns c = outside_settles
