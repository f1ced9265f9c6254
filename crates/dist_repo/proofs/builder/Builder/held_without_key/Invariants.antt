use Rattle.dist_repo.proofs.HeldLemmas.{AreStillHeld}
use Rattle.dist_repo.proofs.builder.Builder.held_without_key.Given as goal

abbrev pub invariant-loop-key : goal.invariant-loop-key
invariant-loop-key l = AreStillHeld l.self l.key-iterator l.package
