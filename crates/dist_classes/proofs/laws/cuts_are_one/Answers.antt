use Rattle.dist_classes.specs.Cuts.{IsClusterCut, IsNameCut}
use Rattle.dist_classes.proofs.SortedLemmas.{one-cuts}
use Rattle.dist_classes.proofs.laws.cuts_are_one.Goals as goal

pub returns-clause-cluster : goal.returns-clause-cluster
returns-clause-cluster c = λ r members top. one-cuts (IsClusterCut r members top)

pub returns-clause-name : goal.returns-clause-name
returns-clause-name c = λ r name. one-cuts (IsNameCut r name)
