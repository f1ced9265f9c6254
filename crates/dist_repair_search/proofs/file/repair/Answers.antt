use Rattle.std.proofs.Common.{◌∙◌, inl, Result, refl, sym, subst}
use Rattle.std.specs.Prelude.{All}
use Rattle.dist_cert.specs.Form.{IsSmall}
use Rattle.dist_outside.specs.DeskView.{DeskView}
use Rattle.dist_outside.specs.declared.trouble.WorkError.{WorkError}
use Rattle.dist_outside.specs.declared.trouble.WorkError.TheVariants.{NoMemory}
use Rattle.dist_repair.specs.declared.repair.Repair.{Repair}
use Rattle.dist_line_write.specs.ScriptLaws.{by-exit}
use Rattle.dist_repair_search.specs.SearchAnswers.{SearchAnswers, TellsFirst, header_with}
use Rattle.dist_repair_search.proofs.StartLemmas.{inputs-err, right-numbers, search-answers, search-says, tells-err, tells-ok, words-over}
use Rattle.dist_repair_search.proofs.file.repair.Goals as goal

pub returns-in_err-set-clause-answers : goal.returns-in_err-set-clause-answers
returns-in_err-set-clause-answers g c =
    let s = c.args.space.now in
    let h = header_with c.args.limit c.args.package c.args.most in
    let old : DeskView = g.D.Desk.view c.args.desk.now in
    by-exit (λ (r : Result Repair WorkError). SearchAnswers s h c.args.limits.now c.args.name.now old old r) c.from_residual.result c.in_err-set.field-0.0
    c.from_residual.ensures.1 (inputs-err s h c.args.limits.now c.args.name.now old c.in_err-set.field-0.0 c.in_err-set.ensures.err)

pub returns-in_err-set-clause-first : goal.returns-in_err-set-clause-first
returns-in_err-set-clause-first g c =
    by-exit (λ (r : Result Repair WorkError). TellsFirst c.args.space.now c.args.most c.args.limits.now r) c.from_residual.result c.in_err-set.field-0.0
    c.from_residual.ensures.1 (tells-err c.args.space.now c.args.most c.args.limits.now c.in_err-set.field-0.0 c.in_err-set.ensures.exact)

pub returns-in_err-numbers-clause-answers : goal.returns-in_err-numbers-clause-answers
returns-in_err-numbers-clause-answers g c =
    let old : DeskView = g.D.Desk.view c.args.desk.now in
    by-exit (λ (r : Result Repair WorkError). SearchAnswers c.args.space.now (header_with c.args.limit c.args.package c.args.most) c.args.limits.now
    c.args.name.now old old r) c.from_residual-in_err-numbers.result NoMemory c.from_residual-in_err-numbers.ensures.1 (inl refl)

pub returns-in_err-numbers-clause-first : goal.returns-in_err-numbers-clause-first
returns-in_err-numbers-clause-first g c =
    tells-ok c.args.space.now c.args.most c.args.limits.now c.in_ok-set.set c.in_ok-set.ensures.exact c.from_residual-in_err-numbers.result

pub answer_with-requires-clause-numbers : goal.answer_with-requires-clause-numbers
answer_with-requires-clause-numbers g c =
    let s = c.args.space.now in
    let h = header_with c.args.limit c.args.package c.args.most in
    let limits = c.args.limits.now in
    let is = c.deref.ensures.value ∙ c.in_ok-numbers.ensures.value in
    right-numbers s h limits c.in_ok-set.set c.in_ok-set.ensures.ok c.requires.package c.requires.most c.deref.result.now is

pub answer_with-requires-clause-words : goal.answer_with-requires-clause-words
answer_with-requires-clause-words g c =
    let s = c.args.space.now in
    let h = header_with c.args.limit c.args.package c.args.most in
    let limits = c.args.limits.now in
    let is = c.deref.ensures.value ∙ c.in_ok-numbers.ensures.value in
    λ w are. words-over s h limits c.in_ok-set.set c.in_ok-set.ensures.ok c.requires.package c.requires.most c.keeps_invariant.ensures.space
    c.deref.result.now is w are c.in_ok-set.set.variables refl

pub returns-clause-answers : goal.returns-clause-answers
returns-clause-answers g c =
    let s = c.args.space.now in
    let h = header_with c.args.limit c.args.package c.args.most in
    let limits = c.args.limits.now in
    let is = c.deref.ensures.value ∙ c.in_ok-numbers.ensures.value in
    search-answers s h limits c.in_ok-set.set c.in_ok-set.ensures.ok c.requires.package c.requires.most c.requires.from_one c.requires.upto
    c.deref.result.now is (subst (All IsSmall) (sym c.deref.ensures.value) c.in_ok-numbers.ensures.small) c.keeps_invariant-2.ensures.within.over_variables
    c.args.name.now (g.D.Desk.view c.args.desk.now) (g.D.Desk.view c.answer_with.new.desk) c.answer_with.result c.answer_with.ensures

pub returns-clause-first : goal.returns-clause-first
returns-clause-first g c =
    tells-ok c.args.space.now c.args.most c.args.limits.now c.in_ok-set.set c.in_ok-set.ensures.exact c.answer_with.result

pub returns-clause-says : goal.returns-clause-says
returns-clause-says g c =
    let s = c.args.space.now in
    let h = header_with c.args.limit c.args.package c.args.most in
    let limits = c.args.limits.now in
    let is = c.deref.ensures.value ∙ c.in_ok-numbers.ensures.value in
    search-says s h limits c.args.name.now (g.D.Desk.view c.args.desk.now) (g.D.Desk.view c.answer_with.new.desk) c.answer_with.result
    (search-answers s h limits c.in_ok-set.set c.in_ok-set.ensures.ok c.requires.package c.requires.most c.requires.from_one c.requires.upto
    c.deref.result.now is (subst (All IsSmall) (sym c.deref.ensures.value) c.in_ok-numbers.ensures.small) c.keeps_invariant-2.ensures.within.over_variables
    c.args.name.now (g.D.Desk.view c.args.desk.now) (g.D.Desk.view c.answer_with.new.desk) c.answer_with.result c.answer_with.ensures)
    (λ text numbers repair header answered.
    c.accepted_repairs_hold.ensures s limits text numbers h repair c.keeps_invariant.ensures.space header answered)
