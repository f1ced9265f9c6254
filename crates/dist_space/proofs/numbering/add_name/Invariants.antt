use Rattle.std.proofs.Common.{[], ◌∷◌, length, take}
use Rattle.std.specs.List.{flat_map}
use Rattle.dist_space.specs.Kept.{IsExtended}
use Rattle.dist_space.specs.NumberingPrivate.{below}
use Rattle.dist_space.specs.Space.{fresh_classes}
use Rattle.dist_space.specs.declared.meaning.Meaning.TheVariants.{Fresh}
use Rattle.dist_space.proofs.numbering.add_name.Given as goal

abbrev pub invariant-loop-class : goal.invariant-loop-class
invariant-loop-class l = IsExtended l.limit l.initial.meanings.items
    (flat_map (λ k. Fresh l.name k ∷ []) (take l.class (below (length (fresh_classes l.frame l.name))))) l.meanings.items
