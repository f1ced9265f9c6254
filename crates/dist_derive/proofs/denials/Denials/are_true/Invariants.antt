use Rattle.std.proofs.Common.{ℕ, Bool, ◌-◌, ◌≤◌, length}
use Rattle.dist_derive.specs.VariableSet.{GivesTrue}
use Rattle.dist_derive.proofs.DenialLemmas.{AreTrueUpTo}
use Rattle.dist_derive.proofs.denials.Denials.are_true.Given as goal

abbrev pub invariant-loop-place : goal.invariant-loop-place
invariant-loop-place l = record {
  from : l.initial.place ≤ l.place;
  so_far : (value : ℕ → Bool) → GivesTrue value l.trues.members → AreTrueUpTo value l.clauses.clauses l.self-inside.pairs.items l.variable l.place;
}

abbrev pub decreases-loop-place : goal.decreases-loop-place
decreases-loop-place l = length l.self-inside.pairs.items - l.place
