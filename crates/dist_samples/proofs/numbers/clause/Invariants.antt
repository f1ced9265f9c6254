use Rattle.dist_clause.specs.Formula.{IsClauseOver}
use Rattle.dist_samples.proofs.numbers.clause.Given as goal

abbrev pub invariant-loop-number : goal.invariant-loop-number
invariant-loop-number l = IsClauseOver l.variables l.literals.items
