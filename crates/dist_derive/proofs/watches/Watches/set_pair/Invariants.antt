use Rattle.std.proofs.Common.{◌≡◌, ℕ, ◌+◌, ◌-◌, length}
use Rattle.dist_derive.proofs.WatchLemmas.{IsPlaceKept}
use Rattle.dist_derive.proofs.watches.Watches.set_pair.Given as goal

abbrev pub invariant-loop-self : goal.invariant-loop-self
invariant-loop-self l = record {
  same_lists : l.self-inside.lists ≡ l.initial.self-inside.lists;
  kept : (k : ℕ) → IsPlaceKept l.initial.self-inside.pairs.items l.self-inside.pairs.items k;
}

abbrev pub decreases-loop-self : goal.decreases-loop-self
decreases-loop-self l = l.place + 1 - length l.self-inside.pairs.items
