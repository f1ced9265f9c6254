use Rattle.std.proofs.Common.{◌≡◌, take}
use Rattle.dist_cluster.proofs.finding.flattened.Given as goal

abbrev pub invariant-loop-numbers : goal.invariant-loop-numbers
invariant-loop-numbers l = l.flat ≡ take l.numbers-index l.clusters
