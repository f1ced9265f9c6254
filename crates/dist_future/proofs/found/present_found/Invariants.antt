use Rattle.dist_base.specs.Least.{IsLeastIfAny}
use Rattle.dist_future.proofs.FoundLemmas.{OfferedAt}
use Rattle.dist_future.proofs.Leasts.{Before}
use Rattle.dist_future.proofs.found.present_found.Given as goal

-- the least of the offers so far
abbrev pub invariant-loop-offer : goal.invariant-loop-offer
invariant-loop-offer l = IsLeastIfAny (Before (OfferedAt l.space l.members l.atom l.but l.offers) l.offer-index) l.least
