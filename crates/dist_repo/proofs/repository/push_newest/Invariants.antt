use Rattle.std.proofs.Common.{◌≡◌, ◌++◌, length}
use Rattle.dist_repo.specs.LatestPrivate.{last_of_names}
use Rattle.dist_repo.proofs.repository.push_newest.Given as goal

-- what was found and what is still to be found are all
abbrev pub invariant-loop-rest : goal.invariant-loop-rest
invariant-loop-rest l = l.newest.items ++ last_of_names l.rest ≡ last_of_names l.packages

abbrev pub decreases-loop-rest : goal.decreases-loop-rest
decreases-loop-rest l = length l.rest
