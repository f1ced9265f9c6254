use Rattle.std.proofs.Common.{◌≡◌, [], filter, get_or}
use Rattle.std.specs.List.{range_with_len}
use Rattle.dist_report.specs.ClaimParts.{has_some}
use Rattle.dist_report.proofs.impact.with_some.Given as goal

abbrev pub invariant-loop-number : goal.invariant-loop-number
invariant-loop-number l = l.numbers.items ≡ filter (λ q. has_some (get_or l.lists q [])) (range_with_len 0 l.number)
