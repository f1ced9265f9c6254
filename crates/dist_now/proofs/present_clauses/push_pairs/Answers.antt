use Rattle.std.proofs.Common.{false, ◌↔◌, ℕ, List, arith, subst, sym}
use Rattle.std.proofs.lemmas.Result.{err_from_is_err_and}
use Rattle.std.specs.Prelude.{Contains}
use Rattle.dist_now.specs.GatheringPrivate.{IsPairIn, IsRejectingPair}
use Rattle.dist_now.proofs.FrontLemmas.{cause-later, all-pairs}
use Rattle.dist_now.proofs.present_clauses.push_pairs.Goals as goal

pub push_pairs_from-requires-clause-exact : goal.push_pairs_from-requires-clause-exact
push_pairs_from-requires-clause-exact c =
    subst (λ (xs : List (ℕ × ℕ)). (pair : ℕ × ℕ) → Contains xs pair
    ↔ (IsPairIn c.loop-first.first c.in-Ok.next.end pair × IsRejectingPair c.args.repo.now pair)) (sym c.deref.ensures.value) c.in-Ok.ensures.exact

pub returns-clause-ok : goal.returns-clause-ok
returns-clause-ok c =
    all-pairs c.args.repo.now c.loop-first.first c.args.set.now c.loop-first.set (let e = c.len-end.ensures.value in omega (arith, e, c.loop-first-test.false))
    c.loop-first.invariant.1

pub returns-in_err-push_pairs_from-clause-err : goal.returns-in_err-push_pairs_from-clause-err
returns-in_err-push_pairs_from-clause-err c =
    let p = err_from_is_err_and c.from_residual.result c.from_residual.ensures.1 in
    rw (p.1, p.2) (cause-later c.args.repo.now false _ c.args.set.now c.loop-first.set c.in_err-push_pairs_from.field-0.0 c.loop-first.invariant.1
    c.in_err-push_pairs_from.ensures.err)
