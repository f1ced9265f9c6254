use Rattle.dist_base.specs.Least.{IsLeastIfAny}
use Rattle.dist_space_clauses.specs.GatheringPrivate.{IsLaterOf}
use Rattle.dist_future.specs.MatchingPrivate.{IsMovedBut}
use Rattle.dist_future.proofs.FoundLemmas.{OneOf}
use Rattle.dist_future.proofs.Leasts.{Before}
use Rattle.dist_future.proofs.found.moved_found.Given as goal

-- the least of the providers so far
abbrev pub invariant-loop-number : goal.invariant-loop-number
invariant-loop-number l = IsLeastIfAny (Before (OneOf l.space l.members l.atom IsLaterOf (IsMovedBut l.but) l.providers) l.number-index) l.least
