use Rattle.std.proofs.Common.{◌≡◌, map}
use Rattle.std.specs.List.{range_with_len}
use Rattle.dist_check.specs.LayoutPrivate.{class_variables}
use Rattle.dist_check.proofs.layout.classes.Given as goal

abbrev pub invariant-loop-cluster : goal.invariant-loop-cluster
invariant-loop-cluster l = l.classes ≡ map (class_variables l.space) (range_with_len 0 l.cluster)
