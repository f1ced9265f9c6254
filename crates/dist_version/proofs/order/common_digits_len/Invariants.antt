use Rattle.std.proofs.Common.{◌-◌, ◌≤◌}
use Rattle.std.specs.Char.{is_ascii_digit}
use Rattle.std.specs.List.{prefix_len}
use Rattle.dist_version.proofs.order.common_digits_len.Given as goal

-- so far both have digits
abbrev pub invariant-loop-end : goal.invariant-loop-end
invariant-loop-end l = (l.end ≤ l.shorter) × (l.end ≤ prefix_len is_ascii_digit l.a) × (l.end ≤ prefix_len is_ascii_digit l.b)

abbrev pub decreases-loop-end : goal.decreases-loop-end
decreases-loop-end l = l.shorter - l.end
