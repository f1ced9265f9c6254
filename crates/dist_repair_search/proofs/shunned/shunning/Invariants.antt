use Rattle.std.proofs.Common.{◌≡◌, length}
use Rattle.dist_repair_search.proofs.shunned.shunning.Given as goal

abbrev pub invariant-loop-place : goal.invariant-loop-place
invariant-loop-place l = record {
  left_out : length l.left_out ≡ l.count;
  last : length l.last ≡ l.count;
}
