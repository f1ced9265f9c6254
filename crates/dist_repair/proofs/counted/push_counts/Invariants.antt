use Rattle.dist_repair.specs.CountedPrivate.{HasMore}
use Rattle.dist_repair.specs.Counters.{count_clauses, each_below}
use Rattle.dist_repair.proofs.counted.push_counts.Given as goal

abbrev pub invariant-loop-number : goal.invariant-loop-number
invariant-loop-number l = HasMore l.initial.set l.set (each_below l.number (count_clauses l.counter l.cluster))
