use Rattle.std.proofs.Common.{◌-◌, length}
use Rattle.dist_classes.proofs.BoundLemmas.{AreFound}
use Rattle.dist_classes.proofs.bound_table.collect_from.Given as goal

-- the versions before the place are found
abbrev pub invariant-loop-version : goal.invariant-loop-version
invariant-loop-version l = AreFound l.bounds l.name l.fn.place l.place l.fn.found.items l.found.items

abbrev pub decreases-loop-version : goal.decreases-loop-version
decreases-loop-version l = length l.bounds - l.place
