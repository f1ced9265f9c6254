use Rattle.std.specs.Prelude.{◌+◌}
use Rattle.dist_repair.specs.CountedPrivate.{HasMore}
use Rattle.dist_repair.specs.Counters.{count_clauses, each_below}
use Rattle.dist_repair.proofs.counted.push_all_counts.Given as goal

abbrev pub invariant-loop-cluster : goal.invariant-loop-cluster
invariant-loop-cluster l = HasMore l.initial.set l.set (each_below l.cluster (λ x. each_below (l.counter.most + 1) (count_clauses l.counter x)))
