use Rattle.std.proofs.Common.{take}
use Rattle.dist_archive.specs.PlanningPrivate.{ArePushed}
use Rattle.dist_archive.specs.Reach.{AreNewNames}
use Rattle.dist_archive.proofs.planning.push_names.Given as goal

abbrev pub invariant-loop-place : goal.invariant-loop-place
invariant-loop-place l = ArePushed l.initial.steps.items l.steps.items (AreNewNames l.space.repository (take l.place l.later.packages))
