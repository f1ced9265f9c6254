use Rattle.std.proofs.Common.{◌≡◌, ◌↔◌, ℕ, ◌<◌, length}
use Rattle.dist_journal.specs.BreakingPrivate.{IsMovedAt}
use Rattle.dist_journal.specs.Broken.{IsMovedInto}
use Rattle.dist_journal.proofs.breaking.moved_classes.Given as goal

abbrev pub invariant-loop-cluster : goal.invariant-loop-cluster
invariant-loop-cluster l = record {
  many : length l.moved.items ≡ l.cluster;
  each : (k class : ℕ) → k < l.cluster → IsMovedAt l.moved.items (k, class) ↔ IsMovedInto l.archive.space l.archive.packages k class;
}
