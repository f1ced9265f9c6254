use Rattle.std.proofs.Common.{◌+◌, ◌≤◌, length}
use Rattle.dist_control.specs.Lines.{lines}
use Rattle.dist_journal.specs.CutPrivate.{IsBlankTo}
use Rattle.dist_journal.proofs.cutting.first_stray.Given as goal

abbrev pub invariant-loop-rest : goal.invariant-loop-rest
invariant-loop-rest l = record {
  blank : IsBlankTo l.number (lines l.block) (lines l.rest) l.place;
  counted : l.place + length l.rest ≤ l.number + length l.block;
}

abbrev pub decreases-loop-rest : goal.decreases-loop-rest
decreases-loop-rest l = length l.rest
