use Rattle.std.proofs.Common.{◌-◌}
use Rattle.dist_archive.proofs.SearchLemmas.{IsBetween}
use Rattle.dist_archive.proofs.finding.number_named.Given as goal

-- a package of the name, if there is one, is neither before `low` nor from `high` on
abbrev pub invariant-loop-low : goal.invariant-loop-low
invariant-loop-low l = IsBetween l.repo.packages l.name l.low l.high

abbrev pub decreases-loop-low : goal.decreases-loop-low
decreases-loop-low l = l.high - l.low
