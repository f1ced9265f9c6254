use Rattle.dist_now.specs.Health.{AreTwoVersions}
use Rattle.dist_now.proofs.LeastLemmas.{IsNoneBelow}
use Rattle.dist_now.proofs.faults.two_versions.Given as goal

-- the rows so far have none
abbrev pub invariant-loop-first : goal.invariant-loop-first
invariant-loop-first l = IsNoneBelow (AreTwoVersions l.repo l.members) l.first
