use Rattle.std.proofs.Common.{◌≡◌, ◌+◌, suc, ℕ, subst, arith}
use Rattle.std.proofs.lemmas.Result.{err_from_is_err_and}
use Rattle.dist_repair.specs.CountedPrivate.{HasMore}
use Rattle.dist_repair.specs.Counters.{class_clauses, each_below}
use Rattle.dist_repair.proofs.StopLemmas.{more-below, none-below, stops-below}
use Rattle.dist_repair.proofs.counted.push_all_classes.Goals as goal

pub loop-cluster-init : goal.loop-cluster-init
loop-cluster-init c = none-below c.args.set.now (class_clauses c.args.space.now c.args.counter.now)

pub returns-in_err-push_classes-clause-err : goal.returns-in_err-push_classes-clause-err
returns-in_err-push_classes-clause-err c =
    let p = err_from_is_err_and c.from_residual.result c.from_residual.ensures.1 in
    let e = c.clusters-cluster-end.ensures in
    rw (p.1, p.2) (stops-below c.args.set.now c.loop-cluster.set c.loop-cluster.cluster c.args.counter.now.clusters
    (class_clauses c.args.space.now c.args.counter.now)
    c.in_err-push_classes.field-0.0 (omega (arith, e, c.loop-cluster-test.true)) c.loop-cluster.invariant c.in_err-push_classes.ensures.err)

pub loop-cluster-preserved : goal.loop-cluster-preserved
loop-cluster-preserved c =
    let next : suc c.loop-cluster.cluster ≡ c.loop-cluster.cluster + 1 = omega arith in
    subst (λ (n : ℕ). HasMore c.args.set.now c.push_classes.new.set (each_below n (class_clauses c.args.space.now c.args.counter.now))) next
    (more-below c.args.set.now c.loop-cluster.set c.push_classes.new.set c.loop-cluster.cluster (class_clauses c.args.space.now c.args.counter.now)
    c.loop-cluster.invariant c.in_ok-push_classes.ensures.ok)
