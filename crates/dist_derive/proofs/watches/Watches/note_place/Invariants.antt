use Rattle.std.proofs.Common.{◌≡◌, ◌+◌, ◌-◌, length}
use Rattle.dist_derive.proofs.watches.Watches.note_place.Given as goal

abbrev pub invariant-loop-self : goal.invariant-loop-self
invariant-loop-self l = record {
  same_lists : l.self-inside.lists ≡ l.initial.self-inside.lists;
  same_pairs : l.self-inside.pairs ≡ l.initial.self-inside.pairs;
}

abbrev pub decreases-loop-self : goal.decreases-loop-self
decreases-loop-self l = l.index + 1 - length l.self-inside.places.items
