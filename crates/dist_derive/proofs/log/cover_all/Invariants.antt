use Rattle.std.proofs.Common.{◌≡◌}
use Rattle.dist_derive.specs.LogPrivate.{IsIndexed}
use Rattle.dist_derive.proofs.log.cover_all.Given as goal

abbrev pub invariant-loop-place : goal.invariant-loop-place
invariant-loop-place l = IsIndexed l.inputs l.lines l.occurrences × (l.occurrences.covered ≡ l.place)
