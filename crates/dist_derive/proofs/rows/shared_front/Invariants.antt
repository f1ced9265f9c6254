use Rattle.std.proofs.Common.{ℕ, ◌-◌, ◌<◌, ◌≤◌}
use Rattle.dist_clause.specs.Formula.{Literal}
use Rattle.dist_derive.specs.RowsPrivate.{StandsAt}
use Rattle.dist_derive.proofs.rows.shared_front.Given as goal

abbrev pub invariant-loop-front : goal.invariant-loop-front
invariant-loop-front l = record {
  most : l.front ≤ l.most;
  shared : (p : ℕ) (m : Literal) → p < l.front → StandsAt l.before p m → StandsAt l.row p m;
}

abbrev pub decreases-loop-front : goal.decreases-loop-front
decreases-loop-front l = l.most - l.front
