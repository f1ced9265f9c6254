use Rattle.std.proofs.Common.{length, ap, arith}
use Rattle.dist_clause.specs.Formula.{value_of}
use Rattle.dist_cluster.specs.Top.{ClusterList}
use Rattle.dist_report.specs.RepairText.{cluster_move}
use Rattle.dist_report.proofs.RepairTextLemmas.{range-all, range-lines}
use Rattle.dist_report.proofs.repair_lines.write_moves.Goals as goal

pub loop-cluster-preserved : goal.loop-cluster-preserved
loop-cluster-preserved c =
    let s = c.args.space.now in
    let count = ap (λ (x : ClusterList). length x.members) c.clusters.ensures in
    range-lines (cluster_move s (value_of c.args.values.now)) c.args.out.now.items (length s.clusters.members) c.loop-cluster.cluster
    c.loop-cluster.out.items c.write_cluster_move.new.out.items (omega (arith, count)) c.loop-cluster.invariant c.in_ok-write_cluster_move.ensures

pub returns : goal.returns
returns c =
    let s = c.args.space.now in
    let count = ap (λ (x : ClusterList). length x.members) c.clusters.ensures in
    range-all (cluster_move s (value_of c.args.values.now)) c.args.out.now.items (length s.clusters.members) c.loop-cluster.cluster
    c.loop-cluster.out.items (omega (arith, count)) c.loop-cluster.invariant
