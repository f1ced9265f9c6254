use Rattle.std.proofs.Common.{ℕ, Bool, ◌≤◌}
use Rattle.dist_clause.specs.ClauseList.{clause_at}
use Rattle.dist_clause.specs.Formula.{MakesTrue}
use Rattle.dist_derive.specs.VariableSet.{GivesTrue}
use Rattle.dist_derive.proofs.inputs.hold.Given as goal

abbrev pub invariant-loop-place : goal.invariant-loop-place
invariant-loop-place l = (value : ℕ → Bool) → GivesTrue value l.trues.members → (number : ℕ) → 1 ≤ number → number ≤ l.place
    → MakesTrue value (clause_at l.clauses.clauses number)
