use Rattle.std.specs.Prelude.{◌≡◌, ◌+◌, length, sum_by, take}
use Rattle.dist_repo.proofs.size.beside_items.Given as goal

-- the items so far were taken off
abbrev pub invariant-loop-place : goal.invariant-loop-place
invariant-loop-place l = l.left + sum_by (λ item. length item) (take l.place l.items) ≡ l.limit
