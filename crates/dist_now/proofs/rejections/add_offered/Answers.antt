use Rattle.dist_now.proofs.AddsLemmas.{adds-more}
use Rattle.dist_now.proofs.MatchedLemmas.{offer_at, offer-is}
use Rattle.dist_now.proofs.PairLemmas.{IsOfferPairAt, offer-pair, offer-pairs-all}
use Rattle.dist_now.proofs.rejections.add_offered.Goals as goal

pub loop-offer-preserved : goal.loop-offer-preserved
loop-offer-preserved c =
    let offers = c.args.offers.now in
    let i = c.loop-offer.offer-index in
    let old = c.loop-offer.pairs.items in
    let new = c.add_pair.new.pairs.items in
    adds-more c.args.pairs.now.items old new (IsOfferPairAt c.args.span.start c.args.span.end c.args.number offers) i c.loop-offer.invariant
    (offer-pair c.args.span.start c.args.span.end c.args.number offers i (offer_at offers i) old new (offer-is offers i c.loop-offer-test.true)
    c.in_ok-add_pair.ensures)

pub returns : goal.returns
returns c =
    offer-pairs-all c.args.span.start c.args.span.end c.args.number c.args.offers.now c.loop-offer.offer-index c.args.pairs.now.items
    c.loop-offer.pairs.items c.loop-offer-test.false c.loop-offer.invariant
