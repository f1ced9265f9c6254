use Rattle.dist_future.proofs.UnusedClusters.{covered-model}
use Rattle.dist_future.proofs.pair_laws.covered_pairs_have_models.Goals as goal

pub returns : goal.returns
returns c = λ s clauses values n cluster class space are. covered-model s space values cluster class clauses are n
