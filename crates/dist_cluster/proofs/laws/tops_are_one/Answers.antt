use Rattle.dist_cluster.proofs.SomeTops.{some-tops}
use Rattle.dist_cluster.proofs.TopLemmas.{one-top}
use Rattle.dist_cluster.proofs.laws.tops_are_one.Goals as goal

pub returns-clause-there : goal.returns-clause-there
returns-clause-there c = some-tops

pub returns-clause-one : goal.returns-clause-one
returns-clause-one c = one-top
