use Rattle.std.proofs.Common.{arith, subst, sym, Option, ℕ, ◌+◌, ◌∙◌}
use Rattle.std.proofs.lemmas.Bool.{false≢true}
use Rattle.dist_base.specs.Least.{IsLeastIfAny}
use Rattle.dist_now.proofs.RejectedLemmas.{IsRejectedBefore, before-none, before-passed, before-some, rejected-all}
use Rattle.dist_now.proofs.conflicts.rejected.Goals.{then-has+in-Some, then-has+in_default, else-has}
use Rattle.dist_now.proofs.conflicts.rejected.Goals as goal

pub loop-place-preserved : goal.loop-place-preserved
loop-place-preserved c =
    let repo = c.args.repo.now in
    let members = c.args.members.now in
    let marks = c.asked_conflicts-asked.result.now in
    let atoms = c.args.package.now.conflicts in
    let place = c.loop-place.place in
    let Of : Option ℕ → Type 0 = IsLeastIfAny (IsRejectedBefore repo members c.args.number marks atoms (place + 1)) in
    elim c.if-has.branch [
      | then-has+in-Some w ↦ subst Of (sym w.least-is)
          (before-some repo members c.args.number marks atoms place c.get-atom.result.now c.loop-place.least w.in-Some.other w.lesser.result
          c.get-atom.ensures (c.has.ensures.0 w.if-has.true) c.loop-place.invariant w.in-Some.ensures
          w.lesser.ensures.one w.lesser.ensures.at_most_other w.lesser.ensures.at_most_least)
      | then-has+in_default w ↦ subst Of (sym w.least-is)
          (before-none repo members c.args.number marks atoms place c.get-atom.result.now c.loop-place.least c.get-atom.ensures c.loop-place.invariant
          w.in_default.ensures)
      | else-has w ↦ subst Of (sym w.least-is)
          (before-passed repo members c.args.number marks atoms place c.loop-place.least
          (λ is. false≢true (sym w.if-has.false ∙ c.has.ensures.1 is)) c.loop-place.invariant)
    ]

pub returns : goal.returns
returns c =
    rejected-all c.args.repo.now c.args.members.now c.args.number c.asked_conflicts-asked.result.now c.args.package.now c.loop-place.place c.loop-place.least
    c.requires.number c.requires.member (let e = c.len-place-end.ensures in omega (arith, e, c.loop-place-test.false))
    (c.asked_conflicts-asked.ensures c.args.package.now c.requires.number) c.loop-place.invariant
