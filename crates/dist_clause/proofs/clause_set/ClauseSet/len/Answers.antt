use Rattle.std.proofs.Common.{subst}
use Rattle.dist_clause.specs.ClauseList.{IsWithinLimits}
use Rattle.dist_clause.proofs.clause_set.ClauseSet.len.Goals as goal

pub returns-clause-within : goal.returns-clause-within
returns-clause-within c = subst IsWithinLimits c.self.view_is c.self.invariant.within
