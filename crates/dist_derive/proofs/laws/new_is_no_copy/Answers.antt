use Rattle.dist_derive.proofs.SettledLaws.{no_copy}
use Rattle.dist_derive.proofs.laws.new_is_no_copy.Goals as goal

pub returns : goal.returns
returns c = no_copy
