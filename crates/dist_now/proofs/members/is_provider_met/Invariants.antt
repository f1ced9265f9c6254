use Rattle.dist_now.proofs.MemberLemmas.{IsNoneMatched}
use Rattle.dist_now.proofs.members.is_provider_met.Given as goal

-- no provider so far is a member that the atom matches
abbrev pub invariant-loop-number : goal.invariant-loop-number
invariant-loop-number l = IsNoneMatched l.repo l.members l.atom l.providers l.number-index
