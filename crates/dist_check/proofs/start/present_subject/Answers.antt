use Rattle.std.proofs.Common.{◌≡◌, length, ap, arith, subst, sym}
use Rattle.std.proofs.lemmas.Result.{err_from_is_err_and}
use Rattle.dist_check_group.specs.Layout.{LayoutView}
use Rattle.dist_subject.specs.Basis.{Today}
use Rattle.dist_subject.specs.Present.{present_matter}
use Rattle.dist_check.specs.LaysOut.{LaysOut}
use Rattle.dist_check.proofs.Begun.{futures-present, lays-present}
use Rattle.dist_check.proofs.start.present_subject.Goals as goal

pub returns-in_err-inputs-clause-err : goal.returns-in_err-inputs-clause-err
returns-in_err-inputs-clause-err c =
    let p = err_from_is_err_and c.from_residual.result c.from_residual.ensures.1 in
    rw (p.1, p.2) c.in_err-inputs.ensures.cause

pub returns-clause-ok : goal.returns-clause-ok
returns-clause-ok c =
    let r = c.args.repo.now in
    let inputs = c.in_ok-inputs.inputs in
    let are = c.in_ok-inputs.ensures.ok in
    let variables : inputs.variables ≡ length r.packages = are.variables in
    record {
      basis = Today c.args.essential inputs.clauses;
      are_inputs = are;
      packages_are = c.len.ensures.value;
      enough = omega (arith, c.len.ensures.value, variables);
      kind_is = ap (λ (layout : LayoutView). layout.kind) c.present.ensures;
      layout_is = subst (λ (layout : LayoutView). LaysOut (present_matter r c.args.essential inputs.clauses) layout) (sym c.present.ensures)
          (lays-present r c.args.essential inputs.clauses);
      future_is = futures-present r c.args.essential inputs.clauses c.len-count.result;
    }
