use Rattle.std.proofs.Common.{List, subst, arith}
use Rattle.std.proofs.lemmas.Result.{err_from_is_err_and}
use Rattle.dist_clause.specs.Demands.{IsRefused}
use Rattle.dist_clause.specs.Formula.{Literal}
use Rattle.dist_repair.proofs.StopLemmas.{stops-in-list}
use Rattle.dist_repair.proofs.counted.push_all.Goals as goal

pub returns-in_err-push-clause-err : goal.returns-in_err-push-clause-err
returns-in_err-push-clause-err c =
    let p = err_from_is_err_and c.from_residual.result c.from_residual.ensures.1 in
    let e = c.len-place-end.ensures.value in
    rw (p.1, p.2) (stops-in-list c.args.set.now c.loop-place.set c.args.clauses.now.clauses c.loop-place.place c.in_err-push.field-0.0
    (omega (arith, e, c.loop-place-test.true)) c.loop-place.invariant
    (subst (λ (x : List Literal). IsRefused c.loop-place.set x c.in_err-push.field-0.0) c.clause.ensures.value c.in_err-push.ensures.cause))
