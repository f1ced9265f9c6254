use Rattle.std.proofs.Common.{◌≡◌, ◌*◌, ◌≤◌, take}
use Rattle.dist_clause.specs.ClauseList.{literal_count}
use Rattle.dist_bench.proofs.future_clauses.literal_count.Given as goal

abbrev pub invariant-loop-place : goal.invariant-loop-place
invariant-loop-place l = record {
  upto : l.literals ≡ literal_count (take l.place l.set.clauses);
  fits : l.literals ≤ 18446744073709551615 * l.place;
}
