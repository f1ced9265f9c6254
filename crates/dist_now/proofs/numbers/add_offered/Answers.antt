use Rattle.std.proofs.Common.{◌++◌, ◌∷◌, []}
use Rattle.dist_now.proofs.AddsLemmas.{adds-more}
use Rattle.dist_now.proofs.MatchedLemmas.{IsNumberAt, adds-number, matched-all, offer_at, offer-is}
use Rattle.dist_now.proofs.numbers.add_offered.Goals as goal

pub loop-offer-preserved : goal.loop-offer-preserved
loop-offer-preserved c =
    let offers = c.matched-offers.result.now in
    let i = c.loop-offer.offer-index in
    let old = c.loop-offer.numbers.items in
    rw c.in_ok-push.ensures.items
    (adds-more c.args.numbers.now.items old (old ++ (offer_at offers i).number ∷ []) (IsNumberAt offers) i c.loop-offer.invariant
    (adds-number offers i (offer_at offers i) old (offer-is offers i c.loop-offer-test.true)))

pub returns : goal.returns
returns c =
    matched-all c.args.repo.now c.args.atom.now c.matched-offers.result.now c.matched-offers.ensures c.loop-offer.offer-index c.args.numbers.now.items
    c.loop-offer.numbers.items c.loop-offer-test.false c.loop-offer.invariant
