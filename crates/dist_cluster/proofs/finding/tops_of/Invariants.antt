use Rattle.dist_cluster.proofs.TopLemmas.{AreTopsSoFar}
use Rattle.dist_cluster.proofs.finding.tops_of.Given as goal

abbrev pub invariant-loop-numbers : goal.invariant-loop-numbers
invariant-loop-numbers l = AreTopsSoFar l.entries l.clusters l.tops.items l.numbers-index
