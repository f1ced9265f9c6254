use Rattle.dist_control.proofs.Exactness.{exact-text}
use Rattle.dist_control.proofs.laws.one_list_or_fault.Goals as goal

pub returns : goal.returns
returns c = exact-text
