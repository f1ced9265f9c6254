use Rattle.std.proofs.Common.{◌≡◌, ◌-◌, ◌≤◌, filter}
use Rattle.std.specs.List.{range_with_len}
use Rattle.dist_clause.specs.Formula.{value_of}
use Rattle.dist_line_write.proofs.words.true_variables.Given as goal

abbrev pub invariant-members : goal.invariant-members
invariant-members l = record {
  within : l.last ≤ l.variables;
  are : l.members.items ≡ filter (λ v. value_of l.values v) (range_with_len 1 l.last);
}

abbrev pub decreases-members : goal.decreases-members
decreases-members l = l.variables - l.last
