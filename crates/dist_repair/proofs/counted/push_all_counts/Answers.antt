use Rattle.std.proofs.Common.{◌≡◌, ◌+◌, suc, ℕ, subst, arith}
use Rattle.std.proofs.lemmas.Result.{err_from_is_err_and}
use Rattle.dist_repair.specs.CountedPrivate.{HasMore}
use Rattle.dist_repair.specs.Counters.{count_clauses, each_below}
use Rattle.dist_repair.proofs.StopLemmas.{more-below, none-below, stops-below}
use Rattle.dist_repair.proofs.counted.push_all_counts.Goals as goal

pub loop-cluster-init : goal.loop-cluster-init
loop-cluster-init c = none-below c.args.set.now (λ x. each_below (c.args.counter.now.most + 1) (count_clauses c.args.counter.now x))

pub returns-in_err-push_counts-clause-err : goal.returns-in_err-push_counts-clause-err
returns-in_err-push_counts-clause-err c =
    let p = err_from_is_err_and c.from_residual.result c.from_residual.ensures.1 in
    let e = c.clusters-cluster-end.ensures in
    rw (p.1, p.2) (stops-below c.args.set.now c.loop-cluster.set c.loop-cluster.cluster c.args.counter.now.clusters
    (λ x. each_below (c.args.counter.now.most + 1) (count_clauses c.args.counter.now x))
    c.in_err-push_counts.field-0.0 (omega (arith, e, c.loop-cluster-test.true)) c.loop-cluster.invariant c.in_err-push_counts.ensures.err)

pub loop-cluster-preserved : goal.loop-cluster-preserved
loop-cluster-preserved c =
    let next : suc c.loop-cluster.cluster ≡ c.loop-cluster.cluster + 1 = omega arith in
    subst (λ (n : ℕ). HasMore c.args.set.now c.push_counts.new.set
    (each_below n (λ x. each_below (c.args.counter.now.most + 1) (count_clauses c.args.counter.now x)))) next
    (more-below c.args.set.now c.loop-cluster.set c.push_counts.new.set c.loop-cluster.cluster
    (λ x. each_below (c.args.counter.now.most + 1) (count_clauses c.args.counter.now x)) c.loop-cluster.invariant c.in_ok-push_counts.ensures.ok)
