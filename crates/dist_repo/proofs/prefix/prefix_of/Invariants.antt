use Rattle.std.proofs.Common.{◌≡◌}
use Rattle.dist_repo.specs.Prefix.{digits}
use Rattle.dist_repo.proofs.prefix.prefix_of.Given as goal

abbrev pub invariant-loop-place : goal.invariant-loop-place
invariant-loop-place l = l.prefix ≡ digits l.place l.name
