use Rattle.std.proofs.Common.{◌≡◌, length}
use Rattle.dist_lanes_tests.proofs.rows.row_of.Given as goal

abbrev pub invariant-loop-place : goal.invariant-loop-place
invariant-loop-place l = length l.row ≡ l.places
