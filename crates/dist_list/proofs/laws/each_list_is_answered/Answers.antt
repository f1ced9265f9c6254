use Rattle.dist_list.proofs.SomeList.{some-list}
use Rattle.dist_list.proofs.laws.each_list_is_answered.Goals as goal

pub returns : goal.returns
returns c = some-list
