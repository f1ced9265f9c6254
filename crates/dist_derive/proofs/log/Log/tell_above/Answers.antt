use Rattle.std.proofs.Common.{List, take}
use Rattle.dist_clause.specs.Formula.{Literal}
use Rattle.dist_derive.proofs.StandingLemmas.{told_above}
use Rattle.dist_derive.proofs.log.Log.tell_above.Goals as goal

pub returns-clause-answer : goal.returns-clause-answer
returns-clause-answer c =
    let clauses = take c.args.last c.args.self.now.clauses in
    let seen : List Literal = c.stand_above.new.watching.literals.literals in
    λ e. told_above clauses seen c.args.assumptions.now c.args.clause.now (c.in_ok-stand_above.ensures.above c.if-not-branch.false)
    (c.in_ok-answer.ensures.answer.0 e)
