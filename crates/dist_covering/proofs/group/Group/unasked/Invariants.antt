use Rattle.std.proofs.Common.{◌≡◌, filter, take}
use Rattle.dist_covering.specs.Group.{is_unasked}
use Rattle.dist_covering.proofs.group.Group.unasked.Given as goal

abbrev pub invariant-loop-at : goal.invariant-loop-at
invariant-loop-at l = l.left.items ≡ filter (is_unasked l.self) (take l.at-index l.pairs)
