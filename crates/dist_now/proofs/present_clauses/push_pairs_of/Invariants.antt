use Rattle.dist_now.proofs.PairFronts.{IsPairFront}
use Rattle.dist_now.proofs.present_clauses.push_pairs_of.Given as goal

-- the clauses before this pair's are there
abbrev pub invariant-loop-second : goal.invariant-loop-second
invariant-loop-second l = IsPairFront l.repo l.first l.seconds l.second-index l.initial.set l.set
