use Rattle.std.proofs.Common.{length}
use Rattle.dist_report.proofs.TurnedLemmas.{AreTurned}
use Rattle.dist_report.proofs.BrokenLemmas.{lists-place}
use Rattle.dist_report.proofs.challenged_report.broken.Given as goal

abbrev pub invariant-loop-number : goal.invariant-loop-number
invariant-loop-number l = AreTurned (lists-place l.kind l.row) l.claims (length l.row) l.number l.lists.items
