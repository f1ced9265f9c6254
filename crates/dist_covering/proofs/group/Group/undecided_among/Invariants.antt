use Rattle.std.proofs.Common.{◌≡◌, filter, take}
use Rattle.dist_cert.specs.Rising.{is_among}
use Rattle.dist_covering.proofs.group.Group.undecided_among.Given as goal

abbrev pub invariant-loop-at : goal.invariant-loop-at
invariant-loop-at l = l.left.items ≡ filter (is_among l.self.undecided) (take l.at-index l.pairs)
