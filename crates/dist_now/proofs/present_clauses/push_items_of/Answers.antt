use Rattle.std.proofs.Common.{false, arith}
use Rattle.std.proofs.lemmas.Result.{err_from_is_err_and}
use Rattle.dist_now.proofs.FrontLemmas.{cause-later, items-end}
use Rattle.dist_now.proofs.present_clauses.push_items_of.Goals as goal

pub returns-clause-ok : goal.returns-clause-ok
returns-clause-ok c =
    items-end c.args.repo.now c.args.number c.loop-place.place c.args.package.now c.args.set.now c.loop-place.set c.requires.number
    (let e = c.len-place-end.ensures in omega (arith, e, c.loop-place-test.false)) c.loop-place.invariant

pub returns-in_err-push_item-clause-err : goal.returns-in_err-push_item-clause-err
returns-in_err-push_item-clause-err c =
    let p = err_from_is_err_and c.from_residual.result c.from_residual.ensures.1 in
    rw (p.1, p.2) (cause-later c.args.repo.now false _ c.args.set.now c.loop-place.set c.in_err-push_item.field-0.0 c.loop-place.invariant
    c.in_err-push_item.ensures.err)
