use Rattle.std.proofs.Common.{List, [], ◌∷◌, ◌++◌, ℕ, Option, Some, None, Result, IfErr, refl}
use Rattle.dist_base.specs.Ascii.{line_feed}
use Rattle.dist_outside.specs.declared.limits.Limits.{Limits}
use Rattle.dist_repo.specs.PackageList.{PackageList}
use Rattle.dist_cert.specs.Form.{header_text}
use Rattle.dist_outside.specs.DeskView.{DeskView}
use Rattle.dist_outside.specs.Reading.{bytes_left}
use Rattle.dist_cert.specs.declared.faults.ReadCertError.{ReadCertError}
use Rattle.dist_cert.specs.Reading.{text_left}
use Rattle.dist_check.specs.declared.checking.Checked.{Checked}
use Rattle.dist_check.specs.Checking.{LargeCause, TextAnswers}
use Rattle.dist_judge.specs.Causes.{TextCause}
use Rattle.dist_judge.specs.Judging.{OfText}
use Rattle.dist_judge.specs.ReadingLaws.{by_exit, later_cause, nothing_read}
use Rattle.dist_check.proofs.CheckSteps.{header-stops, start-stops, starts-checked}
use Rattle.dist_check.proofs.CheckText.{accepted-means, completed-alike}
use Rattle.dist_check.proofs.LargeCauses.{header-large, start-large}
use Rattle.dist_check.proofs.checking.check_text.Goals as goal

pub returns-in_err-header-clause-text : goal.returns-in_err-header-clause-text
returns-in_err-header-clause-text g c =
    let old : DeskView = g.D.Desk.view c.args.desk.now in
    let new : DeskView = g.D.Desk.view c.header.new.desk in
    let told : Option (List ℕ) = bytes_left old.files old.mode in
    by_exit (λ (r : Result Checked ReadCertError). OfText told
    (λ text. TextAnswers (λ (x : Checked). x.header) (λ (x : Checked). x.claims) c.args.repo.now c.args.limits.now text r)) c.from_residual.result
    c.in_err-header.field-0.0
    c.from_residual.ensures.1
    (header-stops c.args.repo.now c.args.limits.now c.new-reader.result c.header.new.self
    told (text_left c.new-reader.result old) (text_left c.header.new.self new) old new
    c.new-reader.ensures (nothing_read c.args.limits.now c.new-reader.result old c.new-reader.ensures)
    c.in_err-header.field-0.0 c.in_err-header.ensures.text c.in_err-header.ensures.cause)

pub returns-in_err-started-clause-text : goal.returns-in_err-started-clause-text
returns-in_err-started-clause-text g c =
    let old : DeskView = g.D.Desk.view c.args.desk.now in
    let new : DeskView = g.D.Desk.view c.header.new.desk in
    let told : Option (List ℕ) = bytes_left old.files old.mode in
    by_exit (λ (r : Result Checked ReadCertError). OfText told
    (λ text. TextAnswers (λ (x : Checked). x.header) (λ (x : Checked). x.claims) c.args.repo.now c.args.limits.now text r))
    c.from_residual-in_err-started.result c.in_err-started.field-0.0
    c.from_residual-in_err-started.ensures.1
    (start-stops c.forms_are_clear.ensures c.args.repo.now c.args.limits.now c.new-reader.result told (text_left c.new-reader.result old)
    (text_left c.header.new.self new) c.in_ok-header.header c.new-reader.ensures (nothing_read c.args.limits.now c.new-reader.result old c.new-reader.ensures)
    c.in_err-started.field-0.0 c.in_ok-header.ensures.text c.in_err-started.ensures.answers)

pub claims_behind-requires-clause-start : goal.claims_behind-requires-clause-start
claims_behind-requires-clause-start g c =
    starts-checked c.forms_are_clear.ensures c.models_are_healthy.ensures c.args.repo.now c.keeps_invariant.ensures.in_order
    c.args.limits.now c.new-reader.result c.header.new.self None None None
    c.in_ok-header.header c.in_ok-started.started.kept.checker c.in_ok-started.started.kept.notes c.new-reader.ensures refl refl c.in_ok-header.ensures.some
    c.in_ok-header.ensures.gives c.in_ok-started.ensures.answers

pub returns-in_err-claims-clause-text : goal.returns-in_err-claims-clause-text
returns-in_err-claims-clause-text g c =
    let old : DeskView = g.D.Desk.view c.args.desk.now in
    let new : DeskView = g.D.Desk.view c.header.new.desk in
    let told : Option (List ℕ) = bytes_left old.files old.mode in
    let checked = starts-checked c.forms_are_clear.ensures c.models_are_healthy.ensures c.args.repo.now c.keeps_invariant.ensures.in_order
    c.args.limits.now c.new-reader.result c.header.new.self told
    (text_left c.new-reader.result old) (text_left c.header.new.self new) c.in_ok-header.header
    c.in_ok-started.started.kept.checker c.in_ok-started.started.kept.notes c.new-reader.ensures
    (nothing_read c.args.limits.now c.new-reader.result old c.new-reader.ensures) c.in_ok-header.ensures.text
    c.in_ok-header.ensures.some c.in_ok-header.ensures.gives c.in_ok-started.ensures.answers in
    by_exit (λ (r : Result Checked ReadCertError). OfText told
    (λ text. TextAnswers (λ (x : Checked). x.header) (λ (x : Checked). x.claims) c.args.repo.now c.args.limits.now text r))
    c.from_residual-in_err-claims.result
    c.in_err-claims.field-0.0 c.from_residual-in_err-claims.ensures.1
    (c.in_err-claims.ensures.text told checked)

pub returns-in_err-claims-clause-cause : goal.returns-in_err-claims-clause-cause
returns-in_err-claims-clause-cause g c =
    let old : DeskView = g.D.Desk.view c.args.desk.now in
    let middle : DeskView = g.D.Desk.view c.header.new.desk in
    let new : DeskView = g.D.Desk.view c.claims_behind.new.desk in
    by_exit (λ (r : Result Checked ReadCertError). IfErr r (TextCause old new)) c.from_residual-in_err-claims.result c.in_err-claims.field-0.0
    c.from_residual-in_err-claims.ensures.1
    (later_cause old middle new c.in_err-claims.field-0.0 c.header.ensures.only_reads c.claims_behind.ensures.only_reads c.in_err-claims.ensures.cause)

pub returns-clause-text : goal.returns-clause-text
returns-clause-text g c =
    let old : DeskView = g.D.Desk.view c.args.desk.now in
    let new : DeskView = g.D.Desk.view c.header.new.desk in
    let told : Option (List ℕ) = bytes_left old.files old.mode in
    let checked = starts-checked c.forms_are_clear.ensures c.models_are_healthy.ensures c.args.repo.now c.keeps_invariant.ensures.in_order
    c.args.limits.now c.new-reader.result c.header.new.self told
    (text_left c.new-reader.result old) (text_left c.header.new.self new) c.in_ok-header.header
    c.in_ok-started.started.kept.checker c.in_ok-started.started.kept.notes c.new-reader.ensures
    (nothing_read c.args.limits.now c.new-reader.result old c.new-reader.ensures) c.in_ok-header.ensures.text
    c.in_ok-header.ensures.some c.in_ok-header.ensures.gives c.in_ok-started.ensures.answers in
    completed-alike (λ (x : Checked). x.header) (λ (x : Checked). x.claims) c.args.repo.now c.args.limits.now told c.in_ok-header.header
    c.in_ok-claims.claims
    (record { header = c.in_ok-header.header; claims = c.in_ok-claims.claims; space = c.in_ok-started.started.space }) refl refl
    (c.in_ok-claims.ensures.text told checked)

pub returns-clause-means : goal.returns-clause-means
returns-clause-means g c =
    let some = c.in_ok-claims.ensures.some in
    accepted-means c.accepted_claims_hold.ensures c.args.repo.now c.args.limits.now some.0 c.in_ok-header.header c.in_ok-claims.claims
    c.in_ok-started.started.kept.checker c.in_ok-started.started.kept.notes
    c.keeps_invariant.ensures.in_order c.in_ok-started.ensures.answers some.1

pub returns-in_err-header-clause-large : goal.returns-in_err-header-clause-large
returns-in_err-header-clause-large g c =
    by_exit (λ (r : Result Checked ReadCertError). IfErr r (LargeCause c.args.repo.now c.args.limits.now)) c.from_residual.result c.in_err-header.field-0.0
    c.from_residual.ensures.1
    (header-large c.args.repo.now c.args.limits.now c.new-reader.result c.header.new.self (g.D.Desk.view c.args.desk.now) (g.D.Desk.view c.header.new.desk)
    c.in_err-header.field-0.0 c.in_err-header.ensures.cause)

pub returns-in_err-started-clause-large : goal.returns-in_err-started-clause-large
returns-in_err-started-clause-large g c =
    by_exit (λ (r : Result Checked ReadCertError). IfErr r (LargeCause c.args.repo.now c.args.limits.now)) c.from_residual-in_err-started.result
    c.in_err-started.field-0.0 c.from_residual-in_err-started.ensures.1
    (start-large c.args.repo.now c.args.limits.now c.in_ok-header.header c.in_err-started.field-0.0 c.in_err-started.ensures.answers)

pub returns-in_err-claims-clause-large : goal.returns-in_err-claims-clause-large
returns-in_err-claims-clause-large g c =
    by_exit (λ (r : Result Checked ReadCertError). IfErr r (LargeCause c.args.repo.now c.args.limits.now)) c.from_residual-in_err-claims.result
    c.in_err-claims.field-0.0 c.from_residual-in_err-claims.ensures.1
    c.in_err-claims.ensures.large

-- ---- some text, whatever is told

abbrev Some_text : PackageList → Limits → Result Checked ReadCertError → Type 0
Some_text r limits result = (text : List ℕ) × TextAnswers (λ (x : Checked). x.header) (λ (x : Checked). x.claims) r limits text result

pub returns-in_err-header-clause-some : goal.returns-in_err-header-clause-some
returns-in_err-header-clause-some g c =
    let some = c.in_err-header.ensures.some in
    by_exit (Some_text c.args.repo.now c.args.limits.now) c.from_residual.result c.in_err-header.field-0.0 c.from_residual.ensures.1 (
      some.0,
      header-stops c.args.repo.now c.args.limits.now c.new-reader.result
          c.header.new.self (Some some.0) (Some some.0) (Some some.0) (g.D.Desk.view c.args.desk.now) (g.D.Desk.view c.header.new.desk)
          c.new-reader.ensures refl c.in_err-header.field-0.0 (some.0, refl, some.1)
          c.in_err-header.ensures.cause,
    )

pub returns-in_err-started-clause-some : goal.returns-in_err-started-clause-some
returns-in_err-started-clause-some g c =
    let text : List ℕ = header_text c.in_ok-header.header ++ line_feed ∷ [] in
    by_exit (Some_text c.args.repo.now c.args.limits.now) c.from_residual-in_err-started.result c.in_err-started.field-0.0
    c.from_residual-in_err-started.ensures.1 (
      text,
      start-stops c.forms_are_clear.ensures c.args.repo.now c.args.limits.now c.new-reader.result (Some text) (Some text) (Some []) c.in_ok-header.header
          c.new-reader.ensures refl
          c.in_err-started.field-0.0 ([], refl, c.in_ok-header.ensures.some []) c.in_err-started.ensures.answers,
    )

pub returns-in_err-claims-clause-some : goal.returns-in_err-claims-clause-some
returns-in_err-claims-clause-some g c =
    let some = c.in_err-claims.ensures.some in
    by_exit (Some_text c.args.repo.now c.args.limits.now) c.from_residual-in_err-claims.result c.in_err-claims.field-0.0
    c.from_residual-in_err-claims.ensures.1 some

pub returns-clause-some : goal.returns-clause-some
returns-clause-some g c =
    let some = c.in_ok-claims.ensures.some in (
      some.0,
      completed-alike (λ (x : Checked). x.header) (λ (x : Checked). x.claims) c.args.repo.now c.args.limits.now (Some some.0) c.in_ok-header.header
          c.in_ok-claims.claims
          (record { header = c.in_ok-header.header; claims = c.in_ok-claims.claims; space = c.in_ok-started.started.space }) refl refl some.1,
    )
