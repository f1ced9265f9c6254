use Rattle.std.proofs.Common.{map, take}
use Rattle.dist_space.specs.Kept.{IsExtended}
use Rattle.dist_space.specs.NumberingPrivate.{usable_from}
use Rattle.dist_space.specs.declared.meaning.Meaning.TheVariants.{Kept}
use Rattle.dist_space.proofs.numbering.add_entries.Given as goal

abbrev pub invariant-loop-place : goal.invariant-loop-place
invariant-loop-place l = IsExtended l.limit l.initial.meanings.items
    (map (λ j. Kept l.member l.class j) (usable_from l.frame.repository.architecture 0 (take l.place l.package.provides))) l.meanings.items
