use Rattle.std.proofs.Common.{ap, arith, sym, ◌∙◌, slice_get, None}
use Rattle.std.proofs.lemmas.Bool.{false≢true}
use Rattle.dist_repo.specs.PackageList.{PackageList}
use Rattle.dist_future.proofs.FoundLemmas.{IsAny}
use Rattle.dist_future.proofs.Leasts.{none-found}
use Rattle.dist_future.proofs.UnmetLemmas.{none-met, none-more}
use Rattle.dist_future.proofs.health.is_met.Goals.{else-has-via-then-has+else-is_some, else-has-via-else-has}
use Rattle.dist_future.proofs.health.is_met.Goals as goal

pub loop-place-preserved : goal.loop-place-preserved
loop-place-preserved c =
    let s = c.args.space.now in
    let values = c.args.members.now in
    let atom = c.get-atom.result.now in
    none-more s values c.args.alternatives.now c.asked_alternatives-asked.result.now c.loop-place.place atom c.get-atom.ensures
    (elim c.else-has.branch [
      | else-has-via-then-has+else-is_some w ↦ λ _. none-found (IsAny s values atom None) w.found.result (sym w.is_some.ensures ∙ w.if-is_some.false)
          w.found.ensures
      | else-has-via-else-has w ↦ λ is. absurd (false≢true (sym w.if-has.false ∙ c.has.ensures.1 is))
    ]) c.loop-place.invariant

pub returns-clause-met : goal.returns-clause-met
returns-clause-met c = (
  λ is. cc,
  λ some. absurd (none-met c.args.space.now c.args.members.now c.args.alternatives.now c.asked_alternatives-asked.result.now c.loop-place.place
      (let e = c.len-place-end.ensures.value in omega (arith, e, c.loop-place-test.false))
      (c.asked_alternatives-asked.ensures c.requires.item.holder c.args.alternatives.now
      (ap (λ (r : PackageList). slice_get r.packages c.args.number) c.repo.ensures.value ∙ c.requires.item.is_holder) c.requires.item.is_item)
      c.loop-place.invariant some),
)
