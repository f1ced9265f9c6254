use Rattle.dist_now.specs.GatheringPrivate.{IsLastEssential}
use Rattle.dist_now.specs.Health.{IsMissing}
use Rattle.dist_now.proofs.LeastLemmas.{IsNoneTo}
use Rattle.dist_now.proofs.judging.missing.Given as goal

-- none so far
abbrev pub invariant-loop-number : goal.invariant-loop-number
invariant-loop-number l = IsNoneTo (IsMissing l.repo l.members) l.number × IsLastEssential l.repo l.number l.last
