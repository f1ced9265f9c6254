use Rattle.dist_classes.proofs.NameLemmas.{one-new_names}
use Rattle.dist_classes.proofs.SomeCuts.{some-new_names}
use Rattle.dist_classes.proofs.laws.new_names_are_one.Goals as goal

pub returns-clause-there : goal.returns-clause-there
returns-clause-there c = some-new_names

pub returns-clause-one : goal.returns-clause-one
returns-clause-one c = one-new_names
