use Rattle.dist_base.specs.Least.{IsLeastIfAny}
use Rattle.dist_future.proofs.FoundLemmas.{KeptAmong}
use Rattle.dist_future.proofs.Leasts.{Before}
use Rattle.dist_future.proofs.found.version_found.Given as goal

-- the least of the entries so far
abbrev pub invariant-loop-place : goal.invariant-loop-place
invariant-loop-place l = IsLeastIfAny (Before (KeptAmong l.space l.members l.atom l.member l.class l.places) l.place-index) l.least
