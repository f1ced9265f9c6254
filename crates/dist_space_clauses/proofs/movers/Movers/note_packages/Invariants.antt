use Rattle.dist_space_clauses.proofs.MovingLemmas.{AreUpTo}
use Rattle.dist_space_clauses.proofs.movers.Movers.note_packages.Given as goal

-- the packages so far were noted
abbrev pub invariant-loop-number : goal.invariant-loop-number
invariant-loop-number l = AreUpTo l.repo l.number l.self
