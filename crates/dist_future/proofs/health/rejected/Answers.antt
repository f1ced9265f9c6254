use Rattle.std.proofs.Common.{ℕ, ◌+◌, Option, ap, arith, slice_get, subst, sym, ◌∙◌}
use Rattle.std.proofs.lemmas.Bool.{false≢true}
use Rattle.dist_base.specs.Least.{IsLeastIfAny}
use Rattle.dist_repo.specs.PackageList.{PackageList}
use Rattle.dist_future.proofs.Leasts.{Before, least-more, least-skip}
use Rattle.dist_future.proofs.RejectedLemmas.{RejectedAt, rejected-all, rejected-one}
use Rattle.dist_future.proofs.health.rejected.Goals.{then-has, else-has}
use Rattle.dist_future.proofs.health.rejected.Goals as goal

pub loop-place-preserved : goal.loop-place-preserved
loop-place-preserved c =
    let s = c.args.space.now in
    let values = c.args.members.now in
    let number = c.args.number in
    let atoms = c.args.package.now.conflicts in
    let marks = c.asked_conflicts-asked.result.now in
    let place = c.loop-place.place in
    let One : ℕ → ℕ → Type 0 = RejectedAt s values number marks atoms in
    let Of : Option ℕ → Type 0 = IsLeastIfAny (Before One (place + 1)) in
    elim c.if-has.branch [
      | then-has w ↦ subst Of (sym w.least-is)
          (least-more One place c.loop-place.least w.found.result w.lesser-least.result w.lesser-least.ensures c.loop-place.invariant
          (rejected-one s values number marks atoms place c.get-atom.result.now w.found.result c.get-atom.ensures (c.has.ensures.0 w.if-has.true)
          w.found.ensures))
      | else-has w ↦ subst Of (sym w.least-is)
          (least-skip One place c.loop-place.least (λ v f. false≢true (sym w.if-has.false ∙ c.has.ensures.1 f.is_asked)) c.loop-place.invariant)
    ]

pub returns : goal.returns
returns c =
    rejected-all c.args.space.now c.args.members.now c.args.number c.asked_conflicts-asked.result.now c.args.package.now.conflicts c.loop-place.place
    c.loop-place.least (let e = c.len-place-end.ensures in omega (arith, e, c.loop-place-test.false))
    (c.asked_conflicts-asked.ensures c.args.package.now (ap (λ (r : PackageList). slice_get r.packages c.args.number) c.repo.ensures.value ∙ c.requires.number))
    c.loop-place.invariant
