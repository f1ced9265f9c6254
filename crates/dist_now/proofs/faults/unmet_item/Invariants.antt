use Rattle.std.specs.Prelude.{◌≤◌, length, sum_by, take}
use Rattle.dist_now.specs.RowsPrivate.{IsUnmetItem}
use Rattle.dist_now.proofs.LeastLemmas.{IsNoneTo}
use Rattle.dist_now.proofs.faults.unmet_item.Given as goal

-- each item so far is met, and has an atom
abbrev pub invariant-loop-place : goal.invariant-loop-place
invariant-loop-place l = record {
  met : IsNoneTo (IsUnmetItem l.repo l.members l.package.depends) l.place;
  some : l.place ≤ sum_by (λ item. length item) (take l.place l.package.depends);
}
