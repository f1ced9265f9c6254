use Rattle.dist_now.specs.Health.{IsUnmetAt}
use Rattle.dist_now.proofs.LeastLemmas.{IsNoneBelow}
use Rattle.dist_now.proofs.faults.unmet.Given as goal

-- the rows so far have none
abbrev pub invariant-loop-number : goal.invariant-loop-number
invariant-loop-number l = IsNoneBelow (IsUnmetAt l.repo l.members) l.number
