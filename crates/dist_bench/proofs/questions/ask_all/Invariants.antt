use Rattle.std.proofs.Common.{◌≡◌, ◌+◌, ◌*◌, ◌≤◌}
use Rattle.dist_bench.specs.Questions.{total}
use Rattle.dist_bench.proofs.questions.ask_all.Given as goal

abbrev pub invariant-loop-place : goal.invariant-loop-place
invariant-loop-place l = record {
  variables : l.solver.log.variables ≡ l.fn.solver.log.variables;
  least : l.place ≤ total l.counts;
  most : total l.counts ≤ l.place * (l.fn.solver.log.variables + 1);
}
