use Rattle.std.proofs.Common.{◌≡◌, ℕ, ◌<◌, ◌≤◌, ◌↔◌, Bool, true, List, get_or, length}
use Rattle.dist_clause.specs.Formula.{value_of}
use Rattle.dist_sweep.proofs.window.Window.narrow.Given as goal

abbrev pub invariant-loop-place : goal.invariant-loop-place
invariant-loop-place l = record {
  size : length l.common ≡ l.self.variables;
  each : (q : ℕ) → 1 ≤ q → q ≤ l.self.variables → (value_of l.common q ≡ true) ↔ ((value_of l.fn.common q ≡ true)
      × ((k : ℕ) (d : List Bool) → k < l.place → value_of (get_or l.self.kept k d) l.variable ≡ true → value_of (get_or l.self.kept k d) q ≡ true));
}
