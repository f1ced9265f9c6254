use Rattle.dist_cluster.specs.Found.{AreFound}
use Rattle.dist_cluster.proofs.finding.find.Given as goal

abbrev pub invariant-loop-member : goal.invariant-loop-member
invariant-loop-member l = AreFound l.entries l.member l.finding.numbers.entries l.finding.clusters.items l.finding.cluster_of.items
