use Rattle.std.proofs.Common.{◌≡◌, ◌+◌, length}
use Rattle.dist_derive.specs.ClauseLog.{inputs_of}
use Rattle.dist_derive.specs.Follows.{EachLineFollows}
use Rattle.dist_derive.specs.Safe.{AreSafe}
use Rattle.dist_search.specs.Search.{IsSearching}
use Rattle.dist_solver.specs.Evidence.{Adds}
use Rattle.dist_solver.proofs.search.find_answer.Given as goal

abbrev pub invariant-loop : goal.invariant-loop
invariant-loop l = record {
  adds : Adds l.initial.log l.log l.derived l.assumptions l.counter;
  exact : length l.log.clauses ≡ length l.initial.log.clauses + l.counter;
  lines_follow : EachLineFollows l.log.inputs l.log.clauses;
  safe : AreSafe (inputs_of l.log) l.log.clauses;
  variables : l.search.trail.variables ≡ l.initial.log.variables;
  searching : IsSearching l.log.clauses l.assumptions l.cone.members l.search;
}
