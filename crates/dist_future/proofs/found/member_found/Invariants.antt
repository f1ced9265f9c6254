use Rattle.dist_base.specs.Least.{IsLeastIfAny}
use Rattle.dist_future.proofs.FoundLemmas.{VersionFound}
use Rattle.dist_future.proofs.Leasts.{Before}
use Rattle.dist_future.proofs.found.member_found.Given as goal

-- the least of the classes so far
abbrev pub invariant-loop-class : goal.invariant-loop-class
invariant-loop-class l = IsLeastIfAny (Before (VersionFound l.space l.members l.atom l.member) l.class) l.least
