use Rattle.std.proofs.Common.{◌≡◌, ◌++◌, length, take}
use Rattle.std.specs.List.{flat_map, range_with_len}
use Rattle.dist_clause.specs.Formula.{value_of}
use Rattle.dist_report.specs.RepairText.{cluster_move}
use Rattle.dist_report.proofs.repair_lines.write_moves.Given as goal

abbrev pub invariant-loop-cluster : goal.invariant-loop-cluster
invariant-loop-cluster l = l.out.items
    ≡ l.fn.out.items ++ flat_map (cluster_move l.space (value_of l.values)) (take l.cluster (range_with_len 0 (length l.space.clusters.members)))
