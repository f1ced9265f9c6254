use Rattle.dist_cluster.proofs.Clustered.{clustered-itself, clustered-turned, clustered-joined}
use Rattle.dist_cluster.proofs.laws.clustered_is_an_equivalence.Goals as goal

pub returns-clause-itself : goal.returns-clause-itself
returns-clause-itself c = clustered-itself

pub returns-clause-turned : goal.returns-clause-turned
returns-clause-turned c = clustered-turned

pub returns-clause-joined : goal.returns-clause-joined
returns-clause-joined c = clustered-joined
