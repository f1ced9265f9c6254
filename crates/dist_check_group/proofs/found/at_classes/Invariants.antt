use Rattle.std.proofs.Common.{◌≡◌, map, take}
use Rattle.dist_check_group.specs.Layout.{at_class}
use Rattle.dist_check_group.proofs.found.at_classes.Given as goal

abbrev pub invariant-loop-pair : goal.invariant-loop-pair
invariant-loop-pair l = l.found.items ≡ map (at_class l.layout) (take l.pair-index l.pairs)
