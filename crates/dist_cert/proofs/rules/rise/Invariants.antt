use Rattle.std.proofs.Common.{ℕ, ◌<◌, suc, get_or}
use Rattle.dist_cert.proofs.rules.rise.Given as goal

-- each number before the place is below the next
abbrev pub invariant-loop-i : goal.invariant-loop-i
invariant-loop-i l = (k : ℕ) → suc k < l.i → get_or l.numbers k 0 < get_or l.numbers (suc k) 0
