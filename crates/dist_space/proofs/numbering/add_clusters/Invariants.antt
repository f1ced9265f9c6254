use Rattle.std.proofs.Common.{length, take}
use Rattle.std.specs.List.{flat_map}
use Rattle.dist_space.specs.Kept.{IsExtended}
use Rattle.dist_space.specs.NumberingPrivate.{below, cluster_part}
use Rattle.dist_space.proofs.numbering.add_clusters.Given as goal

abbrev pub invariant-loop-cluster : goal.invariant-loop-cluster
invariant-loop-cluster l = IsExtended l.limit l.initial.meanings.items
    (flat_map (cluster_part l.frame) (take l.cluster (below (length l.frame.clusters.members)))) l.meanings.items
