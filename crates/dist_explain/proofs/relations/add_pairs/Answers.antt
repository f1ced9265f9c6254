use Rattle.std.proofs.Common.{◌+◌, ◌∙◌, List, ℕ, arith, subst, sym}
use Rattle.dist_now.specs.PresentClauses.{Apart}
use Rattle.dist_explain.specs.RelationListPrivate.{AreApart, AreListedBefore}
use Rattle.dist_explain.specs.declared.relations.Relation.{Relation}
use Rattle.dist_explain.proofs.RelationLists.{all-pairs, pairs-listed}
use Rattle.dist_explain.proofs.relations.add_pairs.Goals as goal

pub loop-first-preserved : goal.loop-first-preserved
loop-first-preserved c =
    let r = c.args.repo.now in
    let f : ℕ = c.loop-first.first in record {
      before = subst (λ (xs : List Relation). AreListedBefore r (Apart (f + 1) 0) xs) (sym c.in_ok-add_pairs_of.ensures)
          (pairs-listed r f c.deref.result.now c.loop-first.list.items
          (subst (λ (ns : List ℕ). AreApart r f ns) (sym c.deref.ensures.value) c.in_ok-gather_apart.ensures.apart) c.loop-first.invariant.before);
      same = c.gather_apart.ensures.same ∙ c.loop-first.invariant.same;
    }

pub returns : goal.returns
returns c = all-pairs c.args.repo.now c.loop-first.first c.loop-first.list.items
    (let e = c.len-first-end.ensures.value in omega (arith, e, c.loop-first-test.false)) c.loop-first.invariant.before
