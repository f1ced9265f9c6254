use Rattle.dist_now.specs.GatheringPrivate.{IsLastEssential, IsNamedFront}
use Rattle.dist_now.proofs.present_clauses.push_names.Given as goal

-- the clauses of names of earlier packages are there
abbrev pub invariant-loop-number : goal.invariant-loop-number
invariant-loop-number l = IsNamedFront l.repo l.number l.initial.set l.set × IsLastEssential l.repo l.number l.last
