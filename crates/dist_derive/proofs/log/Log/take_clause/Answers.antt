use Rattle.std.proofs.Common.{subst, arith}
use Rattle.dist_derive.specs.TrueLiterals.{HasOutcome}
use Rattle.dist_derive.proofs.FollowsLemmas.{takes_hint_kept}
use Rattle.dist_derive.proofs.log.Log.take_clause.Goals as goal

pub returns-in_default : goal.returns-in_default
returns-in_default c =
    takes_hint_kept c.args.self.now.clauses c.args.literals.now c.args.number c.outcome-outcome.result
    (omega arith, omega (arith, c.len.ensures.value))
    (subst (λ clause. HasOutcome c.args.literals.now.literals clause c.outcome-outcome.result) c.clause.ensures.value c.outcome-outcome.ensures)
    c.in_default.not-Unit
