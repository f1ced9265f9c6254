use Rattle.dist_control.proofs.Values.{values-bytes}
use Rattle.dist_control.proofs.laws.values_take_bytes.Goals as goal

pub returns : goal.returns
returns c = values-bytes
