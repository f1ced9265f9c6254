use Rattle.std.specs.Prelude.{◌≤◌, length, sum_by, take}
use Rattle.dist_future.specs.MatchingPrivate.{IsUnmetItem}
use Rattle.dist_future.proofs.Leasts.{IsNoneTo}
use Rattle.dist_future.proofs.health.unmet_item.Given as goal

-- each item so far is met, and has an atom
abbrev pub invariant-loop-place : goal.invariant-loop-place
invariant-loop-place l = record {
  met : IsNoneTo (IsUnmetItem l.space l.members l.package.depends) l.place;
  some : l.place ≤ sum_by (λ item. length item) (take l.place l.package.depends);
}
