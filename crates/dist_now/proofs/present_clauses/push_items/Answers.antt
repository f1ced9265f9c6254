use Rattle.std.proofs.Common.{false, arith}
use Rattle.std.proofs.lemmas.Result.{err_from_is_err_and}
use Rattle.dist_now.proofs.FrontLemmas.{cause-later, all-items}
use Rattle.dist_now.proofs.present_clauses.push_items.Goals as goal

pub returns-clause-ok : goal.returns-clause-ok
returns-clause-ok c =
    all-items c.args.repo.now c.loop-number.number c.args.set.now c.loop-number.set
    (let e = c.len-number-end.ensures.value in omega (arith, e, c.loop-number-test.false)) c.loop-number.invariant

pub returns-in_err-push_items_of-clause-err : goal.returns-in_err-push_items_of-clause-err
returns-in_err-push_items_of-clause-err c =
    let p = err_from_is_err_and c.from_residual.result c.from_residual.ensures.1 in
    rw (p.1, p.2) (cause-later c.args.repo.now false _ c.args.set.now c.loop-number.set c.in_err-push_items_of.field-0.0 c.loop-number.invariant
    c.in_err-push_items_of.ensures.err)
