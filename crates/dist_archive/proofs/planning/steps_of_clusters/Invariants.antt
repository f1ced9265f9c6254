use Rattle.dist_archive.specs.Reach.{AreParts}
use Rattle.dist_archive.proofs.planning.steps_of_clusters.Given as goal

abbrev pub invariant-loop-cluster : goal.invariant-loop-cluster
invariant-loop-cluster l = AreParts l.space l.later.packages l.cluster l.steps.items
