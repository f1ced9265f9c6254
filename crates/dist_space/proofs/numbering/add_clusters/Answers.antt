use Rattle.std.proofs.Common.{length, arith}
use Rattle.std.proofs.lemmas.Result.{err_from_is_err_and}
use Rattle.dist_space.specs.NumberingPrivate.{below, cluster_part}
use Rattle.dist_space.proofs.ExtendLemmas.{below-at, extend-all, extend-more, full-at, length-below}
use Rattle.dist_space.proofs.numbering.add_clusters.Goals as goal

pub returns-in_err-add_cluster-clause-err : goal.returns-in_err-add_cluster-clause-err
returns-in_err-add_cluster-clause-err c =
    let p = err_from_is_err_and c.from_residual.result c.from_residual.ensures.1 in
    rw (p.1, p.2) (full-at (cluster_part c.args.frame.now) c.args.limit c.args.meanings.now.items c.loop-cluster.meanings.items
    (below (length c.args.frame.now.clusters.members)) c.loop-cluster.cluster c.loop-cluster.cluster _
    (below-at (length c.args.frame.now.clusters.members) c.loop-cluster.cluster (omega arith)) c.loop-cluster.invariant c.in_err-add_cluster.ensures.err)

pub loop-cluster-preserved : goal.loop-cluster-preserved
loop-cluster-preserved c = extend-more (cluster_part c.args.frame.now) c.args.limit c.args.meanings.now.items c.loop-cluster.meanings.items
    c.add_cluster.new.meanings.items (below (length c.args.frame.now.clusters.members)) c.loop-cluster.cluster c.loop-cluster.cluster
    (below-at (length c.args.frame.now.clusters.members) c.loop-cluster.cluster (omega arith)) c.loop-cluster.invariant c.in_ok-add_cluster.ensures.ok

pub returns-clause-ok : goal.returns-clause-ok
returns-clause-ok c = extend-all (cluster_part c.args.frame.now) c.args.limit c.args.meanings.now.items c.loop-cluster.meanings.items
    (below (length c.args.frame.now.clusters.members)) c.loop-cluster.cluster (omega (arith, length-below (length c.args.frame.now.clusters.members)))
    c.loop-cluster.invariant
