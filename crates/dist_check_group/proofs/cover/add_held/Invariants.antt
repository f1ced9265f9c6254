use Rattle.std.proofs.Common.{◌≡◌, ◌++◌, take}
use Rattle.dist_check_group.specs.Layout.{non_packages}
use Rattle.dist_check_group.proofs.cover.add_held.Given as goal

abbrev pub invariant-loop-member : goal.invariant-loop-member
invariant-loop-member l = l.held.items ≡ l.initial.held.items ++ non_packages l.layout (take l.member-index l.members)
