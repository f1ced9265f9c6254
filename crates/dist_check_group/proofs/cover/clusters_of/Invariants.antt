use Rattle.std.proofs.Common.{◌≡◌, take}
use Rattle.dist_check_group.specs.Layout.{used}
use Rattle.dist_check_group.proofs.cover.clusters_of.Given as goal

abbrev pub invariant-loop-member : goal.invariant-loop-member
invariant-loop-member l = l.found.items ≡ used l.layout (take l.member-index l.members)
