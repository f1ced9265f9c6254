use Rattle.dist_derive.proofs.DenialLemmas.{ArePairsUpTo}
use Rattle.dist_derive.proofs.denials.pairs_of.Given as goal

abbrev pub invariant-loop-place : goal.invariant-loop-place
invariant-loop-place l = ArePairsUpTo l.clauses.clauses l.place l.pairs.items
