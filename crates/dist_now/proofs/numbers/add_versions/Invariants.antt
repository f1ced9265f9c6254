use Rattle.std.specs.Prelude.{◌<◌}
use Rattle.dist_now.proofs.AddsLemmas.{AddsUpTo}
use Rattle.dist_now.proofs.VersionLemmas.{IsVersionAt}
use Rattle.dist_now.proofs.numbers.add_versions.Given as goal

-- the packages so far have the name, and were added
abbrev pub invariant-loop-second : goal.invariant-loop-second
invariant-loop-second l = (l.first < l.second) × AddsUpTo l.initial.numbers.items l.numbers.items (IsVersionAt l.repo l.first l.package.name) l.second
