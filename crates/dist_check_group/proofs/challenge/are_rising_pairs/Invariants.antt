use Rattle.std.specs.List.{AllAdjacentBelow}
use Rattle.dist_cert.specs.ClaimRules.{IsPairBelow}
use Rattle.dist_check_group.proofs.challenge.are_rising_pairs.Given as goal

abbrev pub invariant-loop-place : goal.invariant-loop-place
invariant-loop-place l = AllAdjacentBelow IsPairBelow l.pairs l.place
