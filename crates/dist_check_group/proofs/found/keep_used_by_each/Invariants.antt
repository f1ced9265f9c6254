use Rattle.std.proofs.Common.{◌≡◌, filter, take}
use Rattle.dist_check_group.specs.Challenge.{use_each}
use Rattle.dist_check_group.proofs.found.keep_used_by_each.Given as goal

abbrev pub invariant-loop-number : goal.invariant-loop-number
invariant-loop-number l = l.kept.items ≡ filter (use_each l.window.layout l.window (take l.number-index l.named)) l.initial.kept.items
