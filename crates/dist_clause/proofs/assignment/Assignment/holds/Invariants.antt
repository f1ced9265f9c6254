use Rattle.std.proofs.Common.{◌-◌, take}
use Rattle.std.specs.List.{All}
use Rattle.dist_clause.specs.Formula.{value_of, MakesTrue}
use Rattle.dist_clause.proofs.assignment.Assignment.holds.Given as goal

abbrev pub invariant-loop-number : goal.invariant-loop-number
invariant-loop-number l = All (MakesTrue (value_of l.self)) (take (l.number - 1) l.clauses.clauses)
