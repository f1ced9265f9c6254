use Rattle.dist_classes.proofs.SomeCuts.{some-cluster_classes, some-name_classes}
use Rattle.dist_classes.proofs.laws.classes_are_there.Goals as goal

pub returns-clause-cluster : goal.returns-clause-cluster
returns-clause-cluster c = some-cluster_classes

pub returns-clause-name : goal.returns-clause-name
returns-clause-name c = some-name_classes
