use Rattle.std.proofs.Common.{◌≡◌, replicate}
use Rattle.dist_bench.specs.Filled.{four}
use Rattle.dist_bench.proofs.filled.filled.Given as goal

abbrev pub invariant-loop : goal.invariant-loop
invariant-loop l = record { variables : l.set.variables ≡ 4; clauses : l.set.clauses ≡ replicate l.counter four }
