use Rattle.dist_base.specs.Least.{IsLeastIfAny}
use Rattle.dist_future.proofs.RejectedLemmas.{RejectedAt}
use Rattle.dist_future.proofs.Leasts.{Before}
use Rattle.dist_future.proofs.health.rejected.Given as goal

-- the least that the atoms so far reject, of those that are asked
abbrev pub invariant-loop-place : goal.invariant-loop-place
invariant-loop-place l = IsLeastIfAny (Before (RejectedAt l.space l.members l.number l.asked l.package.conflicts) l.place) l.least
