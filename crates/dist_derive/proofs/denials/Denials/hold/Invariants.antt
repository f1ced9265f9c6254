use Rattle.std.proofs.Common.{ℕ, Bool, ◌<◌, get_or}
use Rattle.dist_derive.specs.VariableSet.{GivesTrue}
use Rattle.dist_derive.proofs.DenialLemmas.{AreTrue}
use Rattle.dist_derive.proofs.denials.Denials.hold.Given as goal

abbrev pub invariant-loop-variable : goal.invariant-loop-variable
invariant-loop-variable l = (value : ℕ → Bool) → GivesTrue value l.trues.members → (k : ℕ) → k < l.variable-index
    → AreTrue value l.clauses.clauses l.self (get_or l.trues.members k 0)
