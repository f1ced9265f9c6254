use Rattle.std.proofs.Common.{◌≡◌, ℕ, Bool, take}
use Rattle.dist_derive.specs.Marking.{HasAll}
use Rattle.dist_derive.proofs.variable_set.VariableSet.include_each.Given as goal

abbrev pub invariant-loop-variable : goal.invariant-loop-variable
invariant-loop-variable l = (l.self.variables ≡ l.initial.self.variables)
    × ((has : ℕ → Bool) → HasAll has l.initial.self.members → HasAll has (take l.variable-index l.variables) → HasAll has l.self.members)
