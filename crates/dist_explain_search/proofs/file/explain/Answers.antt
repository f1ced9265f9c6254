use Rattle.std.proofs.Common.{◌+◌, ◌-◌, ◌∙◌, Result, sym, subst}
use Rattle.std.specs.Prelude.{All}
use Rattle.dist_cert.specs.Form.{IsSmall}
use Rattle.dist_outside.specs.declared.trouble.WorkError.{WorkError}
use Rattle.dist_explain.specs.declared.explained.Explained.{Explained}
use Rattle.dist_line_write.specs.ScriptLaws.{by-exit}
use Rattle.dist_explain_search.specs.ExplainAnswers.{TellsFirst}
use Rattle.dist_explain_search.proofs.ExplainedLemmas.{asked-is, explain-answers, first-err, first-ok, told-is}
use Rattle.dist_explain_search.proofs.file.explain.Goals as goal

pub returns-in_err-set-clause-first : goal.returns-in_err-set-clause-first
returns-in_err-set-clause-first g c =
    by-exit (λ (r : Result Explained WorkError). TellsFirst c.args.repo.now c.args.limits.now r) c.from_residual.result c.in_err-set.field-0.0
    c.from_residual.ensures.1 (first-err c.args.repo.now c.args.limits.now c.in_err-set.field-0.0 c.in_err-set.ensures.exact)

pub returns-clause-answers : goal.returns-clause-answers
returns-clause-answers g c =
    let r = c.args.repo.now in
    let number = c.args.«package» in
    let limit = c.args.limit in
    let set = c.in_ok-set.set in
    let packages = c.len-packages.result in
    let variables = c.variables-variables.result in
    let first = c.len-packages.ensures.value in
    let second = c.variables-variables.ensures.value in
    explain-answers r number limit c.args.limits.now set c.in_ok-set.ensures.ok c.requires.«package» c.requires.from_one c.requires.upto
    c.keeps_invariant.ensures.within.over_variables (record { packages = packages; relations = variables - packages; number = number + 1 })
    (asked-is r number limit set packages variables first second) c.deref.result.now
    (told-is r number limit set packages variables first second c.deref.result.now (c.deref.ensures.value ∙ c.in_ok-numbers.ensures.value))
    (subst (All IsSmall) (sym c.deref.ensures.value) c.in_ok-numbers.ensures.small) c.args.name.now (g.D.Desk.view c.args.desk.now)
    (g.D.Desk.view c.answer_with.new.desk) c.answer_with.result c.answer_with.ensures

pub returns-clause-first : goal.returns-clause-first
returns-clause-first g c =
    first-ok c.args.repo.now c.args.limits.now c.in_ok-set.set c.in_ok-set.ensures.exact c.answer_with.result
