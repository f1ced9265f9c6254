use Rattle.dist_base.specs.Least.{IsLeastIfAny}
use Rattle.dist_future.proofs.FoundLemmas.{FreshFound}
use Rattle.dist_future.proofs.Leasts.{Before}
use Rattle.dist_future.proofs.found.fresh_found.Given as goal

-- the least of the classes so far
abbrev pub invariant-loop-class : goal.invariant-loop-class
invariant-loop-class l = IsLeastIfAny (Before (FreshFound l.space l.members l.atom l.name) l.class) l.least
