use Rattle.std.proofs.Common.{◌≡◌, length, take}
use Rattle.dist_clause.specs.Formula.{value_of}
use Rattle.dist_derive.specs.VariableSet.{GivesTrue}
use Rattle.dist_solver.proofs.tested.values.Given as goal

abbrev pub invariant-loop-variable : goal.invariant-loop-variable
invariant-loop-variable l = record {
  variables : length l.values ≡ l.set.variables;
  values : GivesTrue (value_of l.values) (take l.variable-index l.set.members);
}
