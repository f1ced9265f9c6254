use Rattle.dist_now.proofs.AddsLemmas.{AddsUpTo}
use Rattle.dist_now.proofs.MatchedLemmas.{IsNumberAt}
use Rattle.dist_now.proofs.numbers.add_offered.Given as goal

-- the packages of the offers so far were added
abbrev pub invariant-loop-offer : goal.invariant-loop-offer
invariant-loop-offer l = AddsUpTo l.initial.numbers.items l.numbers.items (IsNumberAt l.offers) l.offer-index
