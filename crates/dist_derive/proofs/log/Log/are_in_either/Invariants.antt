use Rattle.std.proofs.Common.{ℕ, ◌⊎◌, ◌<◌, ◌≤◌}
use Rattle.std.specs.List.{All, Contains}
use Rattle.dist_clause.specs.ClauseList.{clause_at}
use Rattle.dist_derive.proofs.log.Log.are_in_either.Given as goal

abbrev pub invariant-loop-before : goal.invariant-loop-before
invariant-loop-before l = (number : ℕ) → l.last < number → number ≤ l.before
    → All (λ m. Contains l.cone.members m.variable ⊎ Contains l.far.members m.variable) (clause_at l.self.clauses number)
