use Rattle.std.proofs.Common.{◌≡◌, ℕ, List, ◌++◌, length}
use Rattle.std.specs.Char.{is_ascii_digit}
use Rattle.dist_version.specs.Order.{weights_of}
use Rattle.dist_version.proofs.Density.{Halts}
use Rattle.dist_version.proofs.kept.with_shortest_numbers.Given as goal

-- Whatever has the weights of the rest may follow what is written, and the whole has the weights of the part. It goes on with no digit where the rest
-- doesn't.
abbrev pub invariant-loop-rest : goal.invariant-loop-rest
invariant-loop-rest l = (x : List ℕ) → weights_of x ≡ weights_of l.rest → (Halts is_ascii_digit l.rest → Halts is_ascii_digit x)
    → weights_of (l.shortest.items ++ x) ≡ weights_of l.fn.part

abbrev pub decreases-loop-rest : goal.decreases-loop-rest
decreases-loop-rest l = length l.rest
