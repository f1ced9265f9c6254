use Rattle.std.proofs.Common.{◌↔◌, List, IfOk, IsTrue, take, subst}
use Rattle.dist_clause.specs.Formula.{Literal}
use Rattle.dist_derive.specs.New.{LeavesFirstUnset}
use Rattle.dist_derive.proofs.log.Log.tell_line.Goals as goal

pub returns-clause-answer : goal.returns-clause-answer
returns-clause-answer c = subst (λ (clause : List Literal). IfOk c.tell.result (λ answer. IsTrue answer
    ↔ LeavesFirstUnset (take c.args.before c.args.self.now.clauses) c.args.assumptions.now clause)) c.clause.ensures.value c.tell.ensures.answer
