use Rattle.std.proofs.Common.{take}
use Rattle.dist_archive.specs.PlanningPrivate.{ArePushed}
use Rattle.dist_archive.specs.Reach.{AreRemovals}
use Rattle.dist_archive.proofs.planning.push_removals.Given as goal

abbrev pub invariant-loop-member : goal.invariant-loop-member
invariant-loop-member l = ArePushed l.initial.steps.items l.steps.items
    (AreRemovals l.space.repository l.later.packages (take l.member-index l.members))
