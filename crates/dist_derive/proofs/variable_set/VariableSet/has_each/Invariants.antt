use Rattle.std.proofs.Common.{take}
use Rattle.std.specs.List.{All, Contains}
use Rattle.dist_derive.proofs.variable_set.VariableSet.has_each.Given as goal

abbrev pub invariant-loop-variable : goal.invariant-loop-variable
invariant-loop-variable l = All (Contains l.self.members) (take l.variable-index l.variables)
