use Rattle.std.proofs.Common.{List, [], ◌∷◌, ◌++◌, ℕ, Option, Some, None, Result, Ok, Err, IfErr, refl, sym, subst}
use Rattle.dist_base.specs.Ascii.{line_feed}
use Rattle.dist_outside.specs.DeskView.{DeskView, OnlyReads}
use Rattle.dist_outside.specs.Reading.{bytes_left}
use Rattle.dist_cert.specs.declared.faults.ReadCertError.{ReadCertError}
use Rattle.dist_cert.specs.FirstLine.{FirstAnswers, FirstOfSome, GivesFirst}
use Rattle.dist_cert.specs.Reading.{WhereTold, text_left}
use Rattle.dist_judge.specs.Causes.{TextCause}
use Rattle.dist_judge.specs.Judging.{OfText}
use Rattle.dist_judge.specs.ReadingLaws.{by_exit, later_cause, nothing_read}
use Rattle.dist_findings.specs.Answers.{TextAnswers}
use Rattle.dist_findings.specs.FilesClearLaws.{clear_files}
use Rattle.dist_findings.proofs.First.{begin-stops, begins-checked, first-stops}
use Rattle.dist_findings.proofs.checking.check_text.Goals as goal

-- the cause of each refusal, behind what was read before
later-causes : {X : Type 0} (entry old new : DeskView) (result : Result X ReadCertError) → OnlyReads entry old → OnlyReads old new
    → IfErr result (TextCause old new) → IfErr result (TextCause entry new)
later-causes entry old new (Ok x) first second cause = tt
later-causes entry old new (Err error) first second cause = later_cause entry old new error first second cause

pub returns-in_err-line-clause-text : goal.returns-in_err-line-clause-text
returns-in_err-line-clause-text g c =
    let file = g.A.Answering.file c.args.answering.now in
    let old : DeskView = g.D.Desk.view c.args.desk.now in
    let new : DeskView = g.D.Desk.view c.first.new.desk in
    let told : Option (List ℕ) = bytes_left old.files old.mode in
    by_exit (λ r. OfText told (λ text. TextAnswers file c.args.limits.now (λ x. x.numbers.items)
    (λ x found. g.A.Answering.noted c.args.answering.now x.numbers.items found x.notes) text r))
    c.from_residual.result c.in_err-line.field-0.0 c.from_residual.ensures.1
    (first-stops file c.args.limits.now c.new-reader.result c.first.new.self told (text_left c.new-reader.result old)
    (text_left c.first.new.self new) old new c.new-reader.ensures (nothing_read c.args.limits.now c.new-reader.result old c.new-reader.ensures)
    c.in_err-line.field-0.0 c.in_err-line.ensures.text c.in_err-line.ensures.cause)

pub returns-in_err-line-clause-some : goal.returns-in_err-line-clause-some
returns-in_err-line-clause-some g c =
    let file = g.A.Answering.file c.args.answering.now in
    let some = c.in_err-line.ensures.some in
    by_exit (λ r. (text : List ℕ) × TextAnswers file c.args.limits.now (λ x. x.numbers.items)
    (λ x found. g.A.Answering.noted c.args.answering.now x.numbers.items found x.notes) text r)
    c.from_residual.result c.in_err-line.field-0.0 c.from_residual.ensures.1 (
      some.0,
      first-stops file c.args.limits.now c.new-reader.result c.first.new.self (Some some.0) (Some some.0) (Some some.0)
          (g.D.Desk.view c.args.desk.now) (g.D.Desk.view c.first.new.desk) c.new-reader.ensures refl c.in_err-line.field-0.0 (some.0, refl, some.1)
          c.in_err-line.ensures.cause,
    )

pub returns-in_err-begun-clause-text : goal.returns-in_err-begun-clause-text
returns-in_err-begun-clause-text g c =
    let file = g.A.Answering.file c.args.answering.now in
    let old : DeskView = g.D.Desk.view c.args.desk.now in
    let new : DeskView = g.D.Desk.view c.first.new.desk in
    let told : Option (List ℕ) = bytes_left old.files old.mode in
    let left : Option (List ℕ) = text_left c.new-reader.result old in
    let after : Option (List ℕ) = text_left c.first.new.self new in
    let answers = subst (λ (l : List ℕ). WhereTold left after (λ rest more. FirstAnswers c.new-reader.result rest more (Ok l))) (sym c.deref.ensures.value)
    c.in_ok-line.ensures.text in
    by_exit (λ r. OfText told (λ text. TextAnswers file c.args.limits.now (λ x. x.numbers.items)
    (λ x found. g.A.Answering.noted c.args.answering.now x.numbers.items found x.notes) text r))
    c.from_residual-in_err-begun.result c.in_err-begun.field-0.0 c.from_residual-in_err-begun.ensures.1
    (begin-stops file (clear_files c.forms_are_clear.ensures file c.front_is_one_line.ensures) c.args.limits.now c.new-reader.result c.first.new.self told
    left after c.deref.result.now c.new-reader.ensures (nothing_read c.args.limits.now c.new-reader.result old c.new-reader.ensures) answers
    c.in_err-begun.field-0.0 c.in_err-begun.ensures.err)

pub returns-in_err-begun-clause-some : goal.returns-in_err-begun-clause-some
returns-in_err-begun-clause-some g c =
    let file = g.A.Answering.file c.args.answering.now in
    let some = subst (λ (l : List ℕ). FirstOfSome c.new-reader.result (Ok l)) (sym c.deref.ensures.value) c.in_ok-line.ensures.some in
    let text : List ℕ = c.deref.result.now ++ line_feed ∷ [] in
    by_exit (λ r. (text : List ℕ) × TextAnswers file c.args.limits.now (λ x. x.numbers.items)
    (λ x found. g.A.Answering.noted c.args.answering.now x.numbers.items found x.notes) text r)
    c.from_residual-in_err-begun.result c.in_err-begun.field-0.0 c.from_residual-in_err-begun.ensures.1 (
      text,
      begin-stops file (clear_files c.forms_are_clear.ensures file c.front_is_one_line.ensures) c.args.limits.now c.new-reader.result c.first.new.self
          (Some text) (Some text) (Some []) c.deref.result.now c.new-reader.ensures refl ([], refl, some [])
          c.in_err-begun.field-0.0 c.in_err-begun.ensures.err,
    )

pub answers_behind-requires-clause-start : goal.answers_behind-requires-clause-start
answers_behind-requires-clause-start g c =
    let file = g.A.Answering.file c.args.answering.now in
    let numbers : List ℕ = c.in_ok-begun.begun.numbers.items in
    let some = subst (λ (l : List ℕ). FirstOfSome c.new-reader.result (Ok l)) (sym c.deref.ensures.value) c.in_ok-line.ensures.some in
    let gives = subst (λ (l : List ℕ). GivesFirst c.new-reader.result c.first.new.self (Ok l)) (sym c.deref.ensures.value) c.in_ok-line.ensures.gives in
    begins-checked file (clear_files c.forms_are_clear.ensures file c.front_is_one_line.ensures) c.args.limits.now c.new-reader.result c.first.new.self
    None None None c.deref.result.now c.new-reader.ensures refl refl (g.A.Answering.noted c.args.answering.now) some gives numbers
    c.in_ok-begun.begun.kept.checker c.in_ok-begun.begun.kept.notes c.in_ok-begun.ensures.ok c.in_ok-begun.ensures.noted

pub returns-clause-text : goal.returns-clause-text
returns-clause-text g c =
    let file = g.A.Answering.file c.args.answering.now in
    let numbers : List ℕ = c.in_ok-begun.begun.numbers.items in
    let old : DeskView = g.D.Desk.view c.args.desk.now in
    let new : DeskView = g.D.Desk.view c.first.new.desk in
    let told : Option (List ℕ) = bytes_left old.files old.mode in
    let left : Option (List ℕ) = text_left c.new-reader.result old in
    let after : Option (List ℕ) = text_left c.first.new.self new in
    let answers = subst (λ (l : List ℕ). WhereTold left after (λ rest more. FirstAnswers c.new-reader.result rest more (Ok l))) (sym c.deref.ensures.value)
    c.in_ok-line.ensures.text in
    let some = subst (λ (l : List ℕ). FirstOfSome c.new-reader.result (Ok l)) (sym c.deref.ensures.value) c.in_ok-line.ensures.some in
    let gives = subst (λ (l : List ℕ). GivesFirst c.new-reader.result c.first.new.self (Ok l)) (sym c.deref.ensures.value) c.in_ok-line.ensures.gives in
    c.answers_behind.ensures.text told
    (begins-checked file (clear_files c.forms_are_clear.ensures file c.front_is_one_line.ensures) c.args.limits.now c.new-reader.result c.first.new.self
    told left after c.deref.result.now c.new-reader.ensures (nothing_read c.args.limits.now c.new-reader.result old c.new-reader.ensures) answers
    (g.A.Answering.noted c.args.answering.now) some gives numbers c.in_ok-begun.begun.kept.checker c.in_ok-begun.begun.kept.notes
    c.in_ok-begun.ensures.ok c.in_ok-begun.ensures.noted)

pub returns-clause-cause : goal.returns-clause-cause
returns-clause-cause g c =
    let old : DeskView = g.D.Desk.view c.args.desk.now in
    let middle : DeskView = g.D.Desk.view c.first.new.desk in
    let new : DeskView = g.D.Desk.view c.answers_behind.new.desk in
    later-causes old middle new c.answers_behind.result c.first.ensures.only_reads c.answers_behind.ensures.only_reads c.answers_behind.ensures.cause
