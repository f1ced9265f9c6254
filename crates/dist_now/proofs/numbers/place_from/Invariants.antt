use Rattle.std.proofs.Common.{ℕ, ◌-◌, ◌<◌, ◌≤◌, length, get_or}
use Rattle.dist_now.proofs.numbers.place_from.Given as goal

-- below the bound before these places, and not below it from their end on
abbrev pub invariant-loop-low : goal.invariant-loop-low
invariant-loop-low l = (l.low ≤ l.high) × (l.high ≤ length l.numbers) × ((k : ℕ) → k < l.low → get_or l.numbers k 0 < l.bound)
    × ((k : ℕ) → l.high ≤ k → k < length l.numbers → l.bound ≤ get_or l.numbers k 0)

abbrev pub decreases-loop-low : goal.decreases-loop-low
decreases-loop-low l = l.high - l.low
