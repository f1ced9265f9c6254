use Rattle.dist_now.specs.NoneAskedLaws.{IsNoneAsked}
use Rattle.dist_now.proofs.MemberLemmas.{IsMetBy}
use Rattle.dist_now.proofs.members.is_met.Given as goal

-- no alternative so far is met, of those that are asked
abbrev pub invariant-loop-place : goal.invariant-loop-place
invariant-loop-place l = IsNoneAsked (IsMetBy l.repo l.members) l.alternatives l.asked l.place
