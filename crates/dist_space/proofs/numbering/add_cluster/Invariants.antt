use Rattle.std.proofs.Common.{length, take}
use Rattle.std.specs.List.{flat_map}
use Rattle.dist_space.specs.Kept.{IsExtended}
use Rattle.dist_space.specs.NumberingPrivate.{below, class_part}
use Rattle.dist_space.specs.Space.{cluster_classes}
use Rattle.dist_space.proofs.numbering.add_cluster.Given as goal

abbrev pub invariant-loop-class : goal.invariant-loop-class
invariant-loop-class l = IsExtended l.limit l.initial.meanings.items
    (flat_map (class_part l.frame l.cluster) (take l.class (below (length (cluster_classes l.frame l.cluster))))) l.meanings.items
