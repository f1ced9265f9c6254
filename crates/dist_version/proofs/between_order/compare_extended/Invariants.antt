use Rattle.std.proofs.Common.{◌≡◌, length}
use Rattle.dist_version.specs.Order.{part_cmp}
use Rattle.dist_version.proofs.Density.{extended}
use Rattle.dist_version.proofs.between_order.compare_extended.Given as goal

-- what is left of both compares as both do
abbrev pub invariant-loop-revision : goal.invariant-loop-revision
invariant-loop-revision l = part_cmp (extended l.revision l.tildes) l.other ≡ part_cmp (extended l.fn.revision l.tildes) l.fn.other

abbrev pub decreases-loop-revision : goal.decreases-loop-revision
decreases-loop-revision l = length l.revision
