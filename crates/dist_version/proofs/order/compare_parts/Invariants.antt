use Rattle.std.proofs.Common.{◌≡◌, ◌+◌, length}
use Rattle.dist_version.specs.Order.{part_cmp}
use Rattle.dist_version.proofs.order.compare_parts.Given as goal

-- what is left of the parts compares as the parts do
abbrev pub invariant-loop-a : goal.invariant-loop-a
invariant-loop-a l = part_cmp l.a l.b ≡ part_cmp l.fn.a l.fn.b

abbrev pub decreases-loop-a : goal.decreases-loop-a
decreases-loop-a l = length l.a + length l.b
