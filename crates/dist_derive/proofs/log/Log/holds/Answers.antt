use Rattle.std.proofs.Common.{◌≡◌, ◌↔◌, IsTrue, List, ◌++◌, length, sym, subst, take}
use Rattle.std.proofs.Math.Seq.{take-append_seam}
use Rattle.dist_clause.specs.Formula.{Literal, IsModel}
use Rattle.dist_derive.specs.ClauseLog.{ClauseLog, inputs_of}
use Rattle.dist_derive.proofs.log.Log.holds.Goals as goal

pub returns : goal.returns
returns c = λ value gives.
    let inputs : List (List Literal) = c.self.inside.inputs.clauses in
    let lines : List (List Literal) = c.self.inside.lines.clauses in
    let same : take (length inputs) (inputs ++ lines) ≡ inputs = take-append_seam inputs lines in
    let exact = c.hold.ensures value gives in
    subst (λ (log : ClauseLog). IsTrue c.hold.result ↔ IsModel value (inputs_of log)) c.self.view_is
    ((λ yes. subst (IsModel value) (sym same) (exact.0 yes)), λ model. exact.1 (subst (IsModel value) same model))
