use Rattle.std.proofs.Common.{◌≡◌, ◌-◌, ◌≤◌, ◌↔◌, ℕ, false, true, length}
use Rattle.dist_clause.specs.Formula.{value_of}
use Rattle.dist_strong.proofs.candidates.strike_all.Given as goal

abbrev pub invariant-others : goal.invariant-others
invariant-others l = record {
  within : l.last ≤ l.variables;
  size : length l.row ≡ l.variables;
  each : (q : ℕ) → 1 ≤ q → q ≤ l.variables
      → (value_of l.row q ≡ true) ↔ ((value_of l.fn.row q ≡ true) × (q ≤ l.last → value_of l.others q ≡ false));
}

abbrev pub decreases-others : goal.decreases-others
decreases-others l = l.variables - l.last
