use Rattle.dist_base.specs.Least.{IsLeastIfAny}
use Rattle.dist_now.proofs.RejectedLemmas.{IsRejectedBefore}
use Rattle.dist_now.proofs.conflicts.rejected.Given as goal

-- the least that the atoms so far reject, of those that are asked
abbrev pub invariant-loop-place : goal.invariant-loop-place
invariant-loop-place l = IsLeastIfAny (IsRejectedBefore l.repo l.members l.number l.asked l.package.conflicts l.place) l.least
