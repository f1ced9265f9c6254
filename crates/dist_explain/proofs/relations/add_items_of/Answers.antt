use Rattle.std.proofs.Common.{◌∙◌, ◌+◌, List, refl, sym, subst, arith}
use Rattle.std.proofs.lemmas.Bool.{true≢false}
use Rattle.dist_now.specs.PresentClauses.{Item}
use Rattle.dist_explain.specs.RelationListPrivate.{AreListedBefore}
use Rattle.dist_explain.specs.declared.relations.Relation.{Relation}
use Rattle.dist_explain.specs.declared.relations.Relation.TheVariants.{Needs}
use Rattle.dist_explain.proofs.RelationLists.{item-is-demand, item-pushed, item-skipped, items-done}
use Rattle.dist_explain.proofs.relations.add_items_of.Goals.{then-not-meets+in_ok-push, else-not-meets}
use Rattle.dist_explain.proofs.relations.add_items_of.Goals as goal

pub loop-place-preserved : goal.loop-place-preserved
loop-place-preserved c =
    let r = c.args.repo.now in
    let n = c.args.number in
    let k = c.loop-place.place in
    let demands = item-is-demand r n k c.args.«package».now c.get.result.now c.requires.number c.get.ensures in
    elim c.if-not-meets.branch [
      | then-not-meets+in_ok-push w ↦ subst (λ v. AreListedBefore r (Item n (k + 1)) v.items) (sym w.list-is)
          (subst (λ (xs : List Relation). AreListedBefore r (Item n (k + 1)) xs) (sym w.in_ok-push.ensures.items)
          (item-pushed r n k c.loop-place.list.items (Needs n k) refl
          (demands.1 (λ here. true≢false (sym (c.meets.ensures.1 here) ∙ w.if-not-meets.true))) c.loop-place.invariant))
      | else-not-meets w ↦ subst (λ v. AreListedBefore r (Item n (k + 1)) v.items) (sym w.list-is)
          (item-skipped r n k c.loop-place.list.items (λ demand. demands.0 demand (c.meets.ensures.0 w.if-not-meets.false)) c.loop-place.invariant)
    ]

pub returns : goal.returns
returns c = items-done c.args.repo.now c.args.number c.loop-place.place c.args.«package».now c.loop-place.list.items c.requires.number
    (let e = c.len-place-end.ensures in omega (arith, e, c.loop-place-test.false)) c.loop-place.invariant
