use Rattle.dist_version.specs.OrderLaws.{equal_is_neither_below}
use Rattle.dist_version.proofs.laws.equal_is_neither_below.Goals as goal

pub returns : goal.returns
returns c = equal_is_neither_below
