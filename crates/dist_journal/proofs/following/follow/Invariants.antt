use Rattle.std.proofs.Common.{◌≡◌, ◌+◌, ◌≤◌, length}
use Rattle.dist_control.specs.Lines.{lines}
use Rattle.dist_journal.specs.CutPrivate.{IsAtStep}
use Rattle.dist_journal.specs.FollowPrivate.{IsFollowedTo}
use Rattle.dist_journal.proofs.following.follow.Given as goal

abbrev pub invariant-loop-rest : goal.invariant-loop-rest
invariant-loop-rest l = record {
  space : l.archive.space ≡ l.fn.archive.space;
  far : IsFollowedTo l.fn.archive.space l.stanzas l.journal l.fn.archive.packages l.archive.packages l.rest l.number l.count;
  at_step : IsAtStep (lines l.rest);
  numbered : l.number + length l.rest ≤ length l.journal + 1;
  counted : l.count + length l.rest ≤ length l.journal;
}

abbrev pub decreases-loop-rest : goal.decreases-loop-rest
decreases-loop-rest l = length l.rest
