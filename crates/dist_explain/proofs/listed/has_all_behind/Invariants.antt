use Rattle.std.proofs.Common.{ℕ, ◌+◌, ◌≤◌}
use Rattle.std.specs.Prelude.{Contains}
use Rattle.dist_explain.proofs.listed.has_all_behind.Given as goal

abbrev pub invariant-loop-place : goal.invariant-loop-place
invariant-loop-place l = (number : ℕ) → 1 ≤ number → number ≤ l.place → Contains l.list (l.offset + number)
