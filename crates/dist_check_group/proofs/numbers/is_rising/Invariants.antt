use Rattle.std.proofs.Common.{◌<◌, ◌+◌, ℕ, get_or, length}
use Rattle.dist_check_group.proofs.numbers.is_rising.Given as goal

abbrev pub invariant-loop-place : goal.invariant-loop-place
invariant-loop-place l = (k : ℕ) → k + 1 < l.place → k + 1 < length l.numbers → get_or l.numbers k 0 < get_or l.numbers (k + 1) 0
