use Rattle.std.proofs.Common.{◌≤◌, length, take}
use Rattle.dist_repo.specs.Held.{packages_of}
use Rattle.dist_archive.specs.PlanningPrivate.{AreBrought}
use Rattle.dist_archive.proofs.planning.block_of.Given as goal

abbrev pub invariant-loop-member : goal.invariant-loop-member
invariant-loop-member l = record {
  few : length l.builder ≤ l.member-index;
  brought : AreBrought l.space.repository l.later.packages (take l.member-index l.members) (packages_of l.builder);
}
