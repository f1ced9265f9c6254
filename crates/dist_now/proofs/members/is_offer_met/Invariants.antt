use Rattle.dist_now.proofs.MatchedLemmas.{IsNoMember}
use Rattle.dist_now.proofs.members.is_offer_met.Given as goal

-- no package so far is a member
abbrev pub invariant-loop-offer : goal.invariant-loop-offer
invariant-loop-offer l = IsNoMember l.members l.offers l.offer-index
