use Rattle.std.proofs.Common.{ℕ, ◌<◌}
use Rattle.dist_space.specs.Space.{IsExample}
use Rattle.dist_space.proofs.exampled.have_examples.Given as goal

abbrev pub invariant-loop-place : goal.invariant-loop-place
invariant-loop-place l = (k : ℕ) → k < l.place → IsExample l.classes k
