use Rattle.dist_version.specs.OrderLaws.{version_total}
use Rattle.dist_version.proofs.laws.order_is_total.Goals as goal

pub returns : goal.returns
returns c = version_total
