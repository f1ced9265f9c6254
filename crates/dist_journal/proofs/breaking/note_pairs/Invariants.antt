use Rattle.dist_journal.specs.BreakingPrivate.{IsNotedUpTo}
use Rattle.dist_journal.specs.PairsPrivate.{Adds}
use Rattle.dist_journal.proofs.breaking.note_pairs.Given as goal

abbrev pub invariant-loop-place : goal.invariant-loop-place
invariant-loop-place l = Adds l.fn.found.keys l.found.keys (IsNotedUpTo l.moved l.number l.pairs l.place)
