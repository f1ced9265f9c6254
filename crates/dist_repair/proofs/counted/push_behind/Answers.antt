use Rattle.std.proofs.Common.{◌+◌, List, subst, sym, arith}
use Rattle.std.proofs.lemmas.Result.{IfErr-weaker, err_from_is_err_and, on_ok_weaker}
use Rattle.dist_clause.specs.Formula.{Literal}
use Rattle.dist_repair.specs.CountedPrivate.{HasMore, StopsWith}
use Rattle.dist_repair.specs.Counters.{count_clauses}
use Rattle.dist_repair.proofs.StopLemmas.{alone, behind, carried, counts-alone, counts-begin, counts-next, more-again, stops-later}
use Rattle.dist_repair.proofs.counted.push_behind.Goals as goal

pub returns-in_err-push_carried-clause-err : goal.returns-in_err-push_carried-clause-err
returns-in_err-push_carried-clause-err c =
    let p = err_from_is_err_and c.from_residual.result c.from_residual.ensures.1 in
    rw (p.1, p.2) (counts-begin c.args.counter.now c.args.before c.args.number c.args.set.now c.in_err-push_carried.field-0.0 c.in_err-push_carried.ensures.err)

pub returns-then-number-eq0-clause-ok : goal.returns-then-number-eq0-clause-ok
returns-then-number-eq0-clause-ok c = on_ok_weaker c.push_first.result
    (λ more. subst (HasMore c.args.set.now c.push_first.new.set)
    (sym (counts-alone c.args.counter.now c.args.before c.args.number c.if-number-eq0.true))
    (more-again c.args.set.now c.push_carried.new.set c.push_first.new.set (carried c.args.counter.now c.args.before c.args.number)
    (alone c.args.counter.now c.args.before) c.in_ok-push_carried.ensures.ok more))
    c.push_first.ensures.ok

pub returns-then-number-eq0-clause-err : goal.returns-then-number-eq0-clause-err
returns-then-number-eq0-clause-err c = IfErr-weaker c.push_first.result
    (StopsWith c.push_carried.new.set (alone c.args.counter.now c.args.before))
    (StopsWith c.args.set.now (count_clauses c.args.counter.now (c.args.before + 1) c.args.number))
    (λ e stops. subst (λ (xs : List (List Literal)). StopsWith c.args.set.now xs e)
    (sym (counts-alone c.args.counter.now c.args.before c.args.number c.if-number-eq0.true))
    (stops-later c.args.set.now c.push_carried.new.set (carried c.args.counter.now c.args.before c.args.number)
    (alone c.args.counter.now c.args.before) e c.in_ok-push_carried.ensures.ok stops))
    c.push_first.ensures.err

pub returns-else-number-eq0-clause-ok : goal.returns-else-number-eq0-clause-ok
returns-else-number-eq0-clause-ok c = on_ok_weaker c.push_next.result
    (λ more. subst (HasMore c.args.set.now c.push_next.new.set)
    (sym (counts-next c.args.counter.now c.args.before c.args.number (omega (arith, c.if-number-eq0.false))))
    (more-again c.args.set.now c.push_carried.new.set c.push_next.new.set (carried c.args.counter.now c.args.before c.args.number)
    (behind c.args.counter.now c.args.before c.args.number) c.in_ok-push_carried.ensures.ok more))
    c.push_next.ensures.ok

pub returns-else-number-eq0-clause-err : goal.returns-else-number-eq0-clause-err
returns-else-number-eq0-clause-err c = IfErr-weaker c.push_next.result
    (StopsWith c.push_carried.new.set (behind c.args.counter.now c.args.before c.args.number))
    (StopsWith c.args.set.now (count_clauses c.args.counter.now (c.args.before + 1) c.args.number))
    (λ e stops. subst (λ (xs : List (List Literal)). StopsWith c.args.set.now xs e)
    (sym (counts-next c.args.counter.now c.args.before c.args.number (omega (arith, c.if-number-eq0.false))))
    (stops-later c.args.set.now c.push_carried.new.set (carried c.args.counter.now c.args.before c.args.number)
    (behind c.args.counter.now c.args.before c.args.number) e c.in_ok-push_carried.ensures.ok stops))
    c.push_next.ensures.err
