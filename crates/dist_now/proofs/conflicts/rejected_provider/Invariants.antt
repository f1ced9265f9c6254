use Rattle.dist_now.proofs.RejectedLemmas.{IsNoneRejected}
use Rattle.dist_now.proofs.conflicts.rejected_provider.Given as goal

-- no provider so far is rejected
abbrev pub invariant-loop-other : goal.invariant-loop-other
invariant-loop-other l = IsNoneRejected l.repo l.members l.number l.atom l.providers l.other-index
