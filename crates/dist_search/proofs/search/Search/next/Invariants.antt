use Rattle.std.proofs.Common.{◌≡◌, ◌-◌, length}
use Rattle.dist_search.specs.Search.{IsSearching}
use Rattle.dist_search.proofs.search.Search.next.Given as goal

abbrev pub invariant-loop-end : goal.invariant-loop-end
invariant-loop-end l = record {
  searching : IsSearching l.log.clauses l.assumptions l.cone.members l.self;
  same_variables : l.self.trail.variables ≡ l.log.variables;
}

abbrev pub decreases-loop-end : goal.decreases-loop-end
decreases-loop-end l = l.self.trail.variables - length l.self.trail.literals
