use Rattle.std.proofs.Common.{◌≡◌, ℕ, ◌<◌, false, get_or}
use Rattle.dist_package.specs.Source.{ends_name}
use Rattle.dist_package.proofs.source.name_end.Given as goal

-- no byte so far ends the name
abbrev pub invariant-loop-place : goal.invariant-loop-place
invariant-loop-place l = (k : ℕ) → k < l.place → ends_name (get_or l.value k 0) ≡ false
