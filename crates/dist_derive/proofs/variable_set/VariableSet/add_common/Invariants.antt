use Rattle.std.proofs.Common.{◌≤◌}
use Rattle.std.specs.List.{All, Contains}
use Rattle.dist_derive.proofs.variable_set.VariableSet.add_common.Given as goal

abbrev pub invariant-loop-variable : goal.invariant-loop-variable
invariant-loop-variable l = All (Contains l.self.members) l.common.items × All (λ v. (1 ≤ v) × (v ≤ l.self.variables)) l.common.items
