use Rattle.std.proofs.Common.{◌≡◌, ◌+◌, ◌-◌, filter, length}
use Rattle.std.specs.List.{range_with_len}
use Rattle.dist_clause.specs.Formula.{value_of}
use Rattle.dist_sweep.specs.Window.{kept_at}
use Rattle.dist_sweep.proofs.window.Window.numbers_with.Given as goal

abbrev pub invariant-loop-place : goal.invariant-loop-place
invariant-loop-place l = l.numbers.items ≡ filter (λ number. value_of (kept_at l.self number) l.variable)
    (range_with_len (l.self.count - length l.self.kept + 1) l.place)
