use Rattle.std.proofs.Common.{◌≡◌, length, take}
use Rattle.dist_derive.proofs.true_literals.TrueLiterals.truncate.Given as goal

abbrev pub invariant-loop-self : goal.invariant-loop-self
invariant-loop-self l = (l.self.variables ≡ l.initial.self.variables) × (take l.len l.self.literals ≡ take l.len l.initial.self.literals)

abbrev pub decreases-loop-self : goal.decreases-loop-self
decreases-loop-self l = length l.self.literals
