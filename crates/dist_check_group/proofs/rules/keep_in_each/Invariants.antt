use Rattle.std.proofs.Common.{◌≡◌, filter, take}
use Rattle.dist_check_group.specs.Group.{in_each}
use Rattle.dist_check_group.proofs.rules.keep_in_each.Given as goal

abbrev pub invariant-loop-number : goal.invariant-loop-number
invariant-loop-number l = l.kept ≡ filter (in_each l.window (take l.number-index l.named)) l.initial.kept
