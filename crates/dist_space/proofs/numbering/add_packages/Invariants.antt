use Rattle.std.proofs.Common.{[], ◌∷◌, length, take}
use Rattle.std.specs.List.{flat_map}
use Rattle.dist_space.specs.Kept.{IsExtended}
use Rattle.dist_space.specs.NumberingPrivate.{below}
use Rattle.dist_space.specs.declared.meaning.Meaning.TheVariants.{Present}
use Rattle.dist_space.proofs.numbering.add_packages.Given as goal

abbrev pub invariant-loop-number : goal.invariant-loop-number
invariant-loop-number l = IsExtended l.limit l.initial.meanings.items
    (flat_map (λ r. Present r ∷ []) (take l.number (below (length l.frame.repository.packages)))) l.meanings.items
