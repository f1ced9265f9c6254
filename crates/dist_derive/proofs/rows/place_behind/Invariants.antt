use Rattle.std.proofs.Common.{ℕ, ◌-◌, ◌<◌, ◌≤◌, length, slice_index}
use Rattle.dist_derive.proofs.rows.place_behind.Given as goal

abbrev pub invariant-loop-next : goal.invariant-loop-next
invariant-loop-next l = record {
  later : l.place < l.next;
  shared : (i : ℕ) → l.place < i → i < l.next → l.least ≤ slice_index l.fronts i;
}

abbrev pub decreases-loop-next : goal.decreases-loop-next
decreases-loop-next l = length l.fronts - l.next
