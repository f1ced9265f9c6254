use Rattle.std.proofs.Common.{◌≡◌, ◌∷◌, map, take}
use Rattle.dist_check.specs.LayoutPrivate.{owner_of}
use Rattle.dist_check.proofs.layout.owners.Given as goal

abbrev pub invariant-loop-place : goal.invariant-loop-place
invariant-loop-place l = l.owners.items ≡ 0 ∷ map (owner_of l.space) (take l.place l.space.meanings)
