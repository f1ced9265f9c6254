use Rattle.std.specs.Prelude.{◌∷◌, []}
use Rattle.dist_space.specs.Space.{variable_of}
use Rattle.dist_space.specs.declared.meaning.Meaning.TheVariants.{At}
use Rattle.dist_repair.specs.CountedPrivate.{HasMore}
use Rattle.dist_repair.specs.Counters.{each_below, moved, no, yes}
use Rattle.dist_repair.proofs.counted.push_classes.Given as goal

abbrev pub invariant-loop-class : goal.invariant-loop-class
invariant-loop-class l = HasMore l.initial.set l.set (each_below l.class
    (λ k. (no (variable_of l.space (At l.cluster k)) ∷ yes (moved l.counter l.cluster) ∷ []) ∷ []))
