use Rattle.dist_base.specs.Least.{IsLeastIfAny}
use Rattle.dist_now.proofs.AddsLemmas.{UpTo}
use Rattle.dist_now.proofs.RejectedLemmas.{IsOfferedAt}
use Rattle.dist_now.proofs.conflicts.rejected_offer.Given as goal

-- the least of the offers so far
abbrev pub invariant-loop-offer : goal.invariant-loop-offer
invariant-loop-offer l = IsLeastIfAny (UpTo (IsOfferedAt l.repo l.members l.number l.atom l.offers) l.offer-index) l.least
