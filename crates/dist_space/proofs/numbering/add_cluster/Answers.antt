use Rattle.std.proofs.Common.{length, arith}
use Rattle.std.proofs.lemmas.Result.{err_from_is_err_and}
use Rattle.dist_space.specs.NumberingPrivate.{below, class_part}
use Rattle.dist_space.specs.Space.{cluster_classes}
use Rattle.dist_space.proofs.ExtendLemmas.{below-at, extend-all, extend-more, full-at, length-below}
use Rattle.dist_space.proofs.numbering.add_cluster.Goals as goal

pub returns-in_err-add_class-clause-err : goal.returns-in_err-add_class-clause-err
returns-in_err-add_class-clause-err c =
    let p = err_from_is_err_and c.from_residual.result c.from_residual.ensures.1 in
    rw (p.1, p.2) (full-at (class_part c.args.frame.now c.args.cluster) c.args.limit c.args.meanings.now.items c.loop-class.meanings.items
    (below (length (cluster_classes c.args.frame.now c.args.cluster))) c.loop-class.class c.loop-class.class _
    (below-at (length (cluster_classes c.args.frame.now c.args.cluster)) c.loop-class.class (omega arith)) c.loop-class.invariant
    c.in_err-add_class.ensures.err)

pub loop-class-preserved : goal.loop-class-preserved
loop-class-preserved c = extend-more (class_part c.args.frame.now c.args.cluster) c.args.limit c.args.meanings.now.items c.loop-class.meanings.items
    c.add_class.new.meanings.items (below (length (cluster_classes c.args.frame.now c.args.cluster))) c.loop-class.class c.loop-class.class
    (below-at (length (cluster_classes c.args.frame.now c.args.cluster)) c.loop-class.class (omega arith)) c.loop-class.invariant c.in_ok-add_class.ensures.ok

pub returns-clause-ok : goal.returns-clause-ok
returns-clause-ok c = extend-all (class_part c.args.frame.now c.args.cluster) c.args.limit c.args.meanings.now.items c.loop-class.meanings.items
    (below (length (cluster_classes c.args.frame.now c.args.cluster))) c.loop-class.class
    (omega (arith, length-below (length (cluster_classes c.args.frame.now c.args.cluster)))) c.loop-class.invariant
