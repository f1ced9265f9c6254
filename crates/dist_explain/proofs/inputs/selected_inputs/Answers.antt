use Rattle.std.proofs.Common.{Result}
use Rattle.std.proofs.lemmas.Result.{IfOk-weaker}
use Rattle.dist_base.specs.Answers.{IsExactly}
use Rattle.dist_clause.specs.ClauseList.{ClauseList}
use Rattle.dist_outside.specs.declared.trouble.WorkError.{WorkError}
use Rattle.dist_outside.specs.declared.trouble.WorkError.TheVariants.{NoMemory, TooLarge}
use Rattle.dist_explain.specs.ExplanationFiles.{AreSelectedInputs, PassesFirst}
use Rattle.dist_explain.specs.Selectors.{IsSelectedSet}
use Rattle.dist_explain.proofs.FileLemmas.{selected-inputs}
use Rattle.dist_explain.proofs.InputLemmas.{exact-early, exact-late, handed-on}
use Rattle.dist_explain.proofs.inputs.selected_inputs.Goals as goal

pub returns-in_err-plain-clause-exact : goal.returns-in_err-plain-clause-exact
returns-in_err-plain-clause-exact c = λ what.
    let r = c.args.repo.now in
    let limits = c.args.limits.now in
    handed-on (λ (x : Result ClauseList WorkError). IsExactly NoMemory x (TooLarge what) (PassesFirst r limits what)) c.from_residual.result
    c.in_err-plain.field-0.0 c.from_residual.ensures.1
    (exact-early (record { same = c.present_clauses_are_one.ensures; kept = c.first_numbers_are_one.ensures.kept }) r limits c.in_err-plain.field-0.0 what
    c.in_err-plain.ensures.cause (c.in_err-plain.ensures.exact what))

pub returns-clause-ok : goal.returns-clause-ok
returns-clause-ok c =
    let r = c.args.repo.now in
    let limits = c.args.limits.now in
    IfOk-weaker c.with_selectors.result (IsSelectedSet limits c.in_ok-plain.plain) (AreSelectedInputs r limits)
    (λ set made. selected-inputs r limits c.in_ok-plain.plain set c.in_ok-plain.ensures.ok made) c.with_selectors.ensures.ok

pub returns-clause-exact : goal.returns-clause-exact
returns-clause-exact c = λ what.
    exact-late (record { same = c.present_clauses_are_one.ensures; kept = c.first_numbers_are_one.ensures.kept }) c.args.repo.now c.args.limits.now
    c.in_ok-plain.plain c.in_ok-plain.ensures.ok c.with_selectors.result what (c.with_selectors.ensures.exact what)
