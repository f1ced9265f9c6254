use Rattle.std.proofs.Common.{◌≡◌}
use Rattle.dist_bench.specs.Explained.{told_of}
use Rattle.dist_bench.proofs.explained.explain_all.Given as goal

abbrev pub invariant-loop-package : goal.invariant-loop-package
invariant-loop-package l = record {
  variables : l.solver.log.variables ≡ l.fn.solver.log.variables;
  each : told_of l.counts ≡ l.«package»;
}
