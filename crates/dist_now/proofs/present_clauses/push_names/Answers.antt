use Rattle.std.proofs.Common.{true, arith}
use Rattle.std.proofs.lemmas.Result.{err_from_is_err_and}
use Rattle.dist_now.proofs.NameFronts.{named-end, named-start}
use Rattle.dist_now.proofs.FrontLemmas.{cause-later}
use Rattle.dist_now.proofs.present_clauses.push_names.Goals as goal

pub loop-number-init : goal.loop-number-init
loop-number-init c = (named-start c.args.repo.now c.args.set.now c.args.set.now c.requires.plain, λ k low high. absurd (omega arith))

pub returns-clause-ok : goal.returns-clause-ok
returns-clause-ok c =
    named-end c.args.repo.now c.loop-number.number c.args.set.now c.loop-number.set
    (let e = c.len-number-end.ensures.value in omega (arith, e, c.loop-number-test.false)) c.loop-number.invariant.0

pub returns-in_err-push_name-clause-err : goal.returns-in_err-push_name-clause-err
returns-in_err-push_name-clause-err c =
    let p = err_from_is_err_and c.from_residual.result c.from_residual.ensures.1 in
    rw (p.1, p.2) (cause-later c.args.repo.now true _ c.args.set.now c.loop-number.set c.in_err-push_name.field-0.0 c.loop-number.invariant.0
    c.in_err-push_name.ensures.err)
