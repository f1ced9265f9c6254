use Rattle.std.proofs.Common.{◌⊎◌, take}
use Rattle.std.specs.List.{All, Contains}
use Rattle.dist_derive.proofs.variable_set.VariableSet.has_clause_or.Given as goal

abbrev pub invariant-loop-literal : goal.invariant-loop-literal
invariant-loop-literal l = All (λ m. Contains l.self.members m.variable ⊎ Contains l.other.members m.variable) (take l.literal-index l.clause)
