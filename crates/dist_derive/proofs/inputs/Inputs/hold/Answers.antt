use Rattle.std.proofs.Common.{◌↔◌, IsTrue, subst}
use Rattle.dist_clause.specs.ClauseList.{ClauseList}
use Rattle.dist_clause.specs.Formula.{IsModel}
use Rattle.dist_derive.proofs.inputs.Inputs.hold.Goals as goal

pub returns-then-self : goal.returns-then-self
returns-then-self c = λ value gives. subst (λ (s : ClauseList). IsTrue c.hold.result ↔ IsModel value s.clauses) c.self.view_is (c.hold.ensures value gives)

pub returns-else-self : goal.returns-else-self
returns-else-self c = λ value gives. subst (λ (s : ClauseList). IsTrue c.hold-else-self.result ↔ IsModel value s.clauses) c.self.view_is
    (c.hold-else-self.ensures value gives)
