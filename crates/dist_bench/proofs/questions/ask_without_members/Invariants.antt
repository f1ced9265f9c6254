use Rattle.std.proofs.Common.{◌≡◌, ◌+◌, ◌≤◌}
use Rattle.dist_bench.specs.Questions.{total}
use Rattle.dist_bench.proofs.questions.ask_without_members.Given as goal

abbrev pub invariant-loop-place : goal.invariant-loop-place
invariant-loop-place l = record {
  variables : l.solver.log.variables ≡ l.fn.solver.log.variables;
  least : total l.fn.counts ≤ total l.counts;
  most : total l.counts ≤ total l.fn.counts + l.place;
}
