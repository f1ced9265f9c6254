use Rattle.std.proofs.Common.{◌≡◌, ℕ, ◌<◌, Bool, true, List, get_or}
use Rattle.dist_clause.specs.Formula.{value_of}
use Rattle.dist_sweep.proofs.window.Window.each_has.Given as goal

abbrev pub invariant-loop-place : goal.invariant-loop-place
invariant-loop-place l = (k : ℕ) (d : List Bool) → k < l.place → value_of (get_or l.self.kept k d) l.variable ≡ true
    → value_of (get_or l.self.kept k d) l.other ≡ true
