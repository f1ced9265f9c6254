use Rattle.std.proofs.Common.{◌≡◌}
use Rattle.dist_samples.proofs.numbers.push_all.Given as goal

-- over as many variables as before
abbrev pub invariant-loop-numbers : goal.invariant-loop-numbers
invariant-loop-numbers l = l.set.variables ≡ l.initial.set.variables
