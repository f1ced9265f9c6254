use Rattle.dist_now.proofs.AddsLemmas.{AddsUpTo}
use Rattle.dist_now.proofs.PairLemmas.{IsOfferPairAt}
use Rattle.dist_now.proofs.rejections.add_offered.Given as goal

-- the pairs with the offers so far were added
abbrev pub invariant-loop-offer : goal.invariant-loop-offer
invariant-loop-offer l = AddsUpTo l.initial.pairs.items l.pairs.items (IsOfferPairAt l.span.start l.span.end l.number l.offers) l.offer-index
