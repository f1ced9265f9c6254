use Rattle.std.proofs.Common.{length, ap, sym, subst, ◌∙◌, arith}
use Rattle.std.proofs.Math.Seq.{take-length}
use Rattle.dist_derive.specs.ClauseLog.{ClauseLog, inputs_of}
use Rattle.dist_derive.specs.Safe.{AreSafe}
use Rattle.dist_derive.specs.VariableSet.{VariableList}
use Rattle.dist_solver.proofs.search.Solver.new.Goals as goal

pub invariant_of-result : goal.invariant_of-result
invariant_of-result c =
    let clauses = c.args.clauses.clauses in
    let log_is = c.in_ok-entries.ensures in
    let variables = ap (λ (l : ClauseLog). l.variables) log_is in
    record {
      cone = ap (λ (s : VariableList). s.variables) c.in-Ok.ensures ∙ (c.variables-variables.ensures.value ∙ sym variables);
      guesses = c.in-Ok-new.ensures ∙ (c.variables-variables.ensures.value ∙ sym variables);
      lines_follow = λ number after within. absurd (omega (
        arith,
        after,
        within,
        ap (λ (l : ClauseLog). l.inputs) log_is,
        ap (λ (l : ClauseLog). length l.clauses) log_is,
      ));
      safe = subst (λ (l : ClauseLog). AreSafe (inputs_of l) l.clauses) (sym log_is)
          (subst (λ cs. AreSafe cs clauses) (sym (take-length clauses)) (c.what_is_safe.ensures.inputs clauses));
      ready = tt;
    }
