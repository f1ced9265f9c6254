use Rattle.dist_space.specs.declared.meaning.Meaning.TheVariants.{At}
use Rattle.dist_future.proofs.NoFutureLemmas.{IsNoneHeld}
use Rattle.dist_future.proofs.no_future.class_held.Given as goal

-- none so far
abbrev pub invariant-loop-class : goal.invariant-loop-class
invariant-loop-class l = IsNoneHeld l.space l.members (At l.cluster) l.start l.class
