use Rattle.dist_journal.specs.BreakingPrivate.{AreNoted}
use Rattle.dist_journal.proofs.breaking.broken.Given as goal

abbrev pub invariant-loop-number : goal.invariant-loop-number
invariant-loop-number l = AreNoted l.archive l.moved.items l.claims l.number l.found.keys
