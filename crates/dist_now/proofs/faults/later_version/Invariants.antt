use Rattle.std.specs.Prelude.{◌≡◌, ◌<◌}
use Rattle.dist_now.specs.RowsPrivate.{IsLater}
use Rattle.dist_now.proofs.LeastLemmas.{IsNoneTo}
use Rattle.dist_now.proofs.faults.later_version.Given as goal

-- no member so far
abbrev pub invariant-loop-second : goal.invariant-loop-second
invariant-loop-second l = IsNoneTo (IsLater l.repo l.members l.first (λ q. l.package.name ≡ q.name)) l.second × (l.first < l.second)
