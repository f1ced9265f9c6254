use Rattle.std.proofs.Common.{ℕ, ◌-◌, ◌<◌, ◌≤◌, length, get_or}
use Rattle.dist_now.proofs.partners.place_of.Given as goal

-- first numbers before these places are below the number, and not so from their end on
abbrev pub invariant-loop-low : goal.invariant-loop-low
invariant-loop-low l = (l.low ≤ l.high) × (l.high ≤ length l.pairs)
    × ((k : ℕ) (d : ℕ × ℕ) → k < l.low → k < length l.pairs → (get_or l.pairs k d).0 < l.number)
    × ((k : ℕ) (d : ℕ × ℕ) → l.high ≤ k → k < length l.pairs → l.number ≤ (get_or l.pairs k d).0)

abbrev pub decreases-loop-low : goal.decreases-loop-low
decreases-loop-low l = l.high - l.low
