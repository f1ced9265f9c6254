use Rattle.std.proofs.Common.{false, subst, sym}
use Rattle.std.proofs.lemmas.Result.{err_from_is_err_and}
use Rattle.dist_now.proofs.PairFronts.{AreSeconds}
use Rattle.dist_now.proofs.PartnerLemmas.{split-start}
use Rattle.dist_now.proofs.FrontLemmas.{cause-later}
use Rattle.dist_now.proofs.present_clauses.push_pairs_from.Goals as goal

pub push_pairs_of-requires-clause-exact : goal.push_pairs_of-requires-clause-exact
push_pairs_of-requires-clause-exact c = subst (AreSeconds c.args.repo.now c.loop-first.first) (sym c.deref.ensures.value) c.in-Ok.ensures.exact

pub gather_apart-requires-clause-exact : goal.gather_apart-requires-clause-exact
gather_apart-requires-clause-exact c = λ second. (
  (λ there. ((c.requires.exact (c.loop-first.first, second)).0 there).1),
  λ rejecting. (c.requires.exact (c.loop-first.first, second)).1 ((c.loop-first.auto.first, c.loop-first-test.true), rejecting),
)

pub loop-first-init : goal.loop-first-init
loop-first-init c = (c.requires.front, split-start c.args.pairs.now c.args.from (λ pair there. ((c.requires.exact pair).0 there).0.0))

pub returns-in_err-push_pairs_of-clause-err : goal.returns-in_err-push_pairs_of-clause-err
returns-in_err-push_pairs_of-clause-err c =
    let p = err_from_is_err_and c.from_residual.result c.from_residual.ensures.1 in
    rw (p.1, p.2) (cause-later c.args.repo.now false _ c.args.set.now c.loop-first.set c.in_err-push_pairs_of.field-0.0 c.loop-first.invariant.0
    c.in_err-push_pairs_of.ensures.err)
