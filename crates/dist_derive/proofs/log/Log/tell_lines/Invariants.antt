use Rattle.std.proofs.Common.{◌<◌, ◌≤◌, ◌-◌, ℕ, take}
use Rattle.dist_clause.specs.ClauseList.{clause_at}
use Rattle.dist_derive.specs.New.{IsNew}
use Rattle.dist_derive.specs.WatchesPrivate.{IsStandingIfMade}
use Rattle.dist_derive.proofs.log.Log.tell_lines.Given as goal

abbrev pub invariant-loop-before : goal.invariant-loop-before
invariant-loop-before l = record {
  standing : IsStandingIfMade l.self.clauses l.self.variables l.watching;
  new : (number : ℕ) → l.last < number → number ≤ l.before
      → IsNew (take (number - 1) l.self.clauses) l.self.inputs l.assumptions (clause_at l.self.clauses number);
}
