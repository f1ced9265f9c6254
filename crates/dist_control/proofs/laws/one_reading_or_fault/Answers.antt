use Rattle.dist_control.proofs.Exactness.{exact}
use Rattle.dist_control.proofs.laws.one_reading_or_fault.Goals as goal

pub returns : goal.returns
returns c = exact
