use Rattle.std.proofs.Common.{◌≡◌, ◌+◌, suc, ℕ, subst, arith}
use Rattle.std.proofs.lemmas.Result.{err_from_is_err_and}
use Rattle.dist_repair.specs.CountedPrivate.{HasMore}
use Rattle.dist_repair.specs.Counters.{count_clauses, each_below}
use Rattle.dist_repair.proofs.StopLemmas.{more-below, none-below, stops-below}
use Rattle.dist_repair.proofs.counted.push_counts.Goals as goal

pub loop-number-init : goal.loop-number-init
loop-number-init c = none-below c.args.set.now (count_clauses c.args.counter.now c.args.cluster)

pub returns-in_err-push_count-clause-err : goal.returns-in_err-push_count-clause-err
returns-in_err-push_count-clause-err c =
    let p = err_from_is_err_and c.from_residual.result c.from_residual.ensures.1 in
    let e = c.most-number-end.ensures in
    rw (p.1, p.2) (stops-below c.args.set.now c.loop-number.set c.loop-number.number (c.args.counter.now.most + 1)
    (count_clauses c.args.counter.now c.args.cluster)
    c.in_err-push_count.field-0.0 (omega (arith, e, c.loop-number-test.true)) c.loop-number.invariant c.in_err-push_count.ensures.err)

pub loop-number-preserved : goal.loop-number-preserved
loop-number-preserved c =
    let next : suc c.loop-number.number ≡ c.loop-number.number + 1 = omega arith in
    subst (λ (n : ℕ). HasMore c.args.set.now c.push_count.new.set (each_below n (count_clauses c.args.counter.now c.args.cluster))) next
    (more-below c.args.set.now c.loop-number.set c.push_count.new.set c.loop-number.number (count_clauses c.args.counter.now c.args.cluster)
    c.loop-number.invariant c.in_ok-push_count.ensures.ok)
