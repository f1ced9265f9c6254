use Rattle.std.proofs.Common.{subst}
use Rattle.dist_derive.specs.ClauseLog.{IsWithinLineLimits}
use Rattle.dist_derive.proofs.LogLemmas.{IsWithinLineLimits-joined}
use Rattle.dist_derive.proofs.log.Log.len.Goals as goal

pub returns-clause-within : goal.returns-clause-within
returns-clause-within c =
    subst IsWithinLineLimits c.self.view_is (IsWithinLineLimits-joined c.self.inside.inputs c.self.inside.lines c.self.invariant.indexed.same_variables
    c.len.ensures.within
    c.len-2.ensures.within)
