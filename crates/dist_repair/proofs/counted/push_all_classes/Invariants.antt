use Rattle.dist_repair.specs.CountedPrivate.{HasMore}
use Rattle.dist_repair.specs.Counters.{class_clauses, each_below}
use Rattle.dist_repair.proofs.counted.push_all_classes.Given as goal

abbrev pub invariant-loop-cluster : goal.invariant-loop-cluster
invariant-loop-cluster l = HasMore l.initial.set l.set (each_below l.cluster (class_clauses l.space l.counter))
