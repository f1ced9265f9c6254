use Rattle.std.proofs.Common.{◌≡◌, ◌++◌, ◌+◌, ◌<◌, ◌^◌, ℕ, length, map}
use Rattle.std.specs.List.{range_with_len}
use Rattle.dist_report.proofs.class_table.push_pairs.Given as goal

abbrev pub invariant-loop-class : goal.invariant-loop-class
invariant-loop-class l = record {
  pairs : l.pairs.items ≡ l.fn.pairs.items ++ map (λ (k : ℕ). (l.cluster, k)) (range_with_len 0 l.class);
  long : length l.pairs.items ≡ length l.fn.pairs.items + l.class;
  few : length l.pairs.items < 2 ^ 32;
}
