use Rattle.std.proofs.Common.{◌≡◌, ◌<◌, ◌≤◌, length}
use Rattle.dist_asked.specs.PlacedPrivate.{IsMarkedAt}
use Rattle.dist_asked.proofs.MarkLemmas.{AreMarkedTo}
use Rattle.dist_asked.proofs.placed.mark.Given as goal

-- the last one that was marked is, and each so far has one
abbrev pub invariant-loop-next : goal.invariant-loop-next
invariant-loop-next l = record {
  last : l.last ≤ l.next;
  same : length l.marks.items ≡ length l.initial.marks.items;
  marked : l.last < l.next → IsMarkedAt l.placed l.marks.items l.last;
  each : AreMarkedTo l.placed l.marks.items l.next;
}
