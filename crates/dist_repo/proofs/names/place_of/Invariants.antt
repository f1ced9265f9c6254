use Rattle.std.proofs.Common.{◌-◌}
use Rattle.dist_repo.proofs.NameSearch.{IsBetween}
use Rattle.dist_repo.proofs.names.place_of.Given as goal

-- the name, if it is there, is neither before `low` nor from `high` on
abbrev pub invariant-loop-low : goal.invariant-loop-low
invariant-loop-low l = IsBetween l.names l.name l.low l.high

abbrev pub decreases-loop-low : goal.decreases-loop-low
decreases-loop-low l = l.high - l.low
