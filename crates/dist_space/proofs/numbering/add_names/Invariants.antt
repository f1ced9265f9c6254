use Rattle.std.proofs.Common.{length, take}
use Rattle.std.specs.List.{flat_map}
use Rattle.dist_space.specs.Kept.{IsExtended}
use Rattle.dist_space.specs.NumberingPrivate.{below, fresh_part}
use Rattle.dist_space.proofs.numbering.add_names.Given as goal

abbrev pub invariant-loop-name : goal.invariant-loop-name
invariant-loop-name l = IsExtended l.limit l.initial.meanings.items (flat_map (fresh_part l.frame) (take l.name (below (length l.frame.names))))
    l.meanings.items
