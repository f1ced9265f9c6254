use Rattle.dist_cluster.proofs.PartitionLemmas.{one-partition, one-cluster}
use Rattle.dist_cluster.proofs.SomePartition.{some-partition}
use Rattle.dist_cluster.proofs.laws.partitions_are_one.Goals as goal

pub returns-clause-there : goal.returns-clause-there
returns-clause-there c = some-partition

pub returns-clause-one : goal.returns-clause-one
returns-clause-one c = one-partition

pub returns-clause-one_cluster : goal.returns-clause-one_cluster
returns-clause-one_cluster c = one-cluster
