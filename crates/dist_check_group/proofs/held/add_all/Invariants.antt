use Rattle.std.proofs.Common.{◌≡◌, ◌++◌, take}
use Rattle.dist_check_group.proofs.held.add_all.Given as goal

abbrev pub invariant-loop-other : goal.invariant-loop-other
invariant-loop-other l = l.numbers.items ≡ l.initial.numbers.items ++ take l.other-index l.others
