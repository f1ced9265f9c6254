use Rattle.std.specs.Prelude.{take}
use Rattle.dist_repair.specs.CountedPrivate.{HasMore}
use Rattle.dist_repair.proofs.counted.push_all.Given as goal

abbrev pub invariant-loop-place : goal.invariant-loop-place
invariant-loop-place l = HasMore l.initial.set l.set (take l.place l.clauses.clauses)
