use Rattle.dist_now.proofs.MemberLemmas.{IsNamed, IsNoneOf}
use Rattle.dist_now.proofs.members.is_named.Given as goal

-- no provider so far is a member of the name
abbrev pub invariant-loop-number : goal.invariant-loop-number
invariant-loop-number l = IsNoneOf l.repo l.members (IsNamed l.name) l.providers l.number-index
