use Rattle.std.proofs.Common.{◌↔◌, ◌<◌, ℕ}
use Rattle.std.specs.Prelude.{Contains}
use Rattle.dist_space.proofs.entry_order.write_places.Given as goal

-- the places so far are there
abbrev pub invariant-loop-place : goal.invariant-loop-place
invariant-loop-place l = (j : ℕ) → Contains l.places.items j ↔ (j < l.place)
