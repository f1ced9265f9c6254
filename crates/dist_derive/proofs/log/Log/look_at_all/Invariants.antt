use Rattle.std.proofs.Common.{◌≤◌, ℕ, length, take}
use Rattle.dist_clause.specs.ClauseList.{clause_at}
use Rattle.dist_derive.specs.SweepPrivate.{Waits, Propagates}
use Rattle.dist_derive.proofs.log.Log.look_at_all.Given as goal

abbrev pub invariant-loop-place : goal.invariant-loop-place
invariant-loop-place l = Propagates (take l.last l.self.clauses) l.initial.literals l.literals
    × ((number done : ℕ) → 1 ≤ number → number ≤ l.place → done ≤ length l.initial.literals.literals
    → Waits l.literals.literals done (clause_at l.self.clauses number))
