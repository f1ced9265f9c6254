use Rattle.std.proofs.Common.{ℕ, List, Option, get_or, refl, subst, arith}
use Rattle.std.proofs.lemmas.List.{get_or_default}
use Rattle.dist_report.proofs.PlaceLemmas.{ArePlaces, IsPlaceOf, places-none, places-some}
use Rattle.dist_report.proofs.ToldLemmas.{take-past}
use Rattle.dist_report.proofs.class_table.ClassRow.places_of.Goals as goal
use Rattle.dist_report.proofs.class_table.ClassRow.places_of.Goals.{in-Some+in_ok-push-in-Some, in-None}

pub loop-pair-init : goal.loop-pair-init
loop-pair-init c = λ place pair is. rw c.new-places.ensures.items refl

pub loop-pair-preserved : goal.loop-pair-preserved
loop-pair-preserved c =
    let row = c.args.self.now in
    let pairs = c.args.pairs.now in
    let k = c.loop-pair.pair-index in
    let q = get_or pairs k (0, 0) in
    let Of : Option ℕ → Type 0 = λ found. IsPlaceOf row q found in
    elim c.match-place_of.branch [
      | in-Some+in_ok-push-in-Some w ↦ rw w.places-is (places-some row pairs k q w.in-Some.place c.loop-pair.places.items _ c.loop-pair-test.true
          (get_or_default pairs k q (0, 0) c.loop-pair-test.true)
          (subst Of w.in-Some.is c.place_of.ensures) w.in_ok-push-in-Some.ensures.items c.loop-pair.invariant)
      | in-None w ↦ rw w.places-is (places-none row pairs k q c.loop-pair.places.items c.loop-pair-test.true
          (get_or_default pairs k q (0, 0) c.loop-pair-test.true) (subst Of w.in-None.is c.place_of.ensures) c.loop-pair.invariant)
    ]

pub returns : goal.returns
returns c =
    let Are : List (ℕ × ℕ) → Type 0 = λ pairs. ArePlaces c.args.self.now pairs c.loop-pair.places.items in
    subst Are (take-past c.args.pairs.now c.loop-pair.pair-index (omega arith)) c.loop-pair.invariant
