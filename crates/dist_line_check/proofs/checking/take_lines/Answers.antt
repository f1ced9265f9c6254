use Rattle.std.proofs.Common.{◌∙◌, List, [], ◌∷◌, ◌++◌, ℕ, Option, Some, None, Result, Ok, IfErr, arith, ap, refl, subst}
use Rattle.dist_base.specs.Ascii.{line_feed}
use Rattle.dist_outside.specs.DeskView.{DeskView}
use Rattle.dist_cert.specs.declared.faults.ReadCertError.{ReadCertError}
use Rattle.dist_cert.specs.declared.records.CertRecord.{CertRecord}
use Rattle.dist_cert.specs.FileLines.{file_text}
use Rattle.dist_cert.specs.Form.{record_text}
use Rattle.dist_cert.specs.Reading.{ReaderView, RecordAnswers, RecordCause, RecordOfSome, GivesRecord, WhereTold, text_left}
use Rattle.dist_judge.specs.Causes.{TextCause}
use Rattle.dist_judge.specs.Judging.{OfText}
use Rattle.dist_judge.specs.ReadingLaws.{by_exit, reads_on}
use Rattle.dist_line_check.specs.Checked.{TextAnswers}
use Rattle.dist_line_check.proofs.TextLemmas.{at-bytes, completes, line-cause, line-stops, next-checked, next-stops, somewhere}
use Rattle.dist_line_check.proofs.checking.take_lines.Goals as goal

pub returns-in_err-step-clause-text : goal.returns-in_err-step-clause-text
returns-in_err-step-clause-text g c = λ limits told h x.
    let kind = g.K.Kind.files c.args.kind.now in
    let left : Option (List ℕ) = text_left c.lines.reader (g.D.Desk.view c.lines.desk) in
    let after : Option (List ℕ) = text_left c.next.new.self (g.D.Desk.view c.next.new.desk) in
    by_exit (λ (r : Result (Unit {0}) ReadCertError). OfText told (λ text. TextAnswers kind limits h (λ (u : Unit {0}). c.lines.kept.notes) text r))
    c.from_residual.result c.in_err-step.field-0.0 c.from_residual.ensures.1
    (next-stops kind limits told h c.lines.reader left c.lines.kept.checker c.lines.kept.notes (c.lines.invariant.told limits told h x)
    c.laws.ensures c.keeps_invariant.ensures c.next.new.self after (g.D.Desk.view c.lines.desk) (g.D.Desk.view c.next.new.desk)
    c.in_err-step.field-0.0 c.in_err-step.ensures.text c.in_err-step.ensures.cause)

pub returns-in_err-step-clause-some : goal.returns-in_err-step-clause-some
returns-in_err-step-clause-some g c = λ limits h x.
    let kind = g.K.Kind.files c.args.kind.now in
    let y = c.lines.invariant.some limits h x in
    let some = c.in_err-step.ensures.some in
    let text : List ℕ = file_text (kind.file.heading_text h) y.before ++ some.0 in
    by_exit (λ (r : Result (Unit {0}) ReadCertError). (text : List ℕ) × TextAnswers kind limits h (λ (u : Unit {0}). c.lines.kept.notes) text r)
    c.from_residual.result c.in_err-step.field-0.0 c.from_residual.ensures.1 (
      text,
      next-stops kind limits (Some text) h c.lines.reader (Some some.0) c.lines.kept.checker c.lines.kept.notes
          (at-bytes kind limits h c.lines.reader c.lines.kept.checker c.lines.kept.notes y some.0) c.laws.ensures c.keeps_invariant.ensures
          c.next.new.self (Some some.0) (g.D.Desk.view c.lines.desk) (g.D.Desk.view c.next.new.desk) c.in_err-step.field-0.0 (some.0, refl, some.1)
          c.in_err-step.ensures.cause,
    )

pub returns-in_default-clause-text : goal.returns-in_default-clause-text
returns-in_default-clause-text g c = λ limits told h x.
    let left : Option (List ℕ) = text_left c.lines.reader (g.D.Desk.view c.lines.desk) in
    let after : Option (List ℕ) = text_left c.next.new.self (g.D.Desk.view c.next.new.desk) in
    completes (g.K.Kind.files c.args.kind.now) limits told h c.lines.reader left c.lines.kept.checker c.lines.kept.notes
    (c.lines.invariant.told limits told h x) c.laws.ensures c.keeps_invariant.ensures after
    (subst (λ (o : Option CertRecord). WhereTold left after (λ rest more. RecordAnswers c.lines.reader rest more (Ok o))) c.in_default.is
    c.in_ok-step.ensures.text)

pub returns-in_default-clause-some : goal.returns-in_default-clause-some
returns-in_default-clause-some g c = λ limits h x.
    let kind = g.K.Kind.files c.args.kind.now in
    let y = c.lines.invariant.some limits h x in
    let text : List ℕ = file_text (kind.file.heading_text h) y.before ++ [] in (
      text,
      completes kind limits (Some text) h c.lines.reader (Some []) c.lines.kept.checker c.lines.kept.notes
          (at-bytes kind limits h c.lines.reader c.lines.kept.checker c.lines.kept.notes y []) c.laws.ensures c.keeps_invariant.ensures (Some [])
          ([], refl, subst (λ (o : Option CertRecord). RecordOfSome c.lines.reader (Ok o)) c.in_default.is c.in_ok-step.ensures.some),
    )

pub take_line-requires-clause-somewhere : goal.take_line-requires-clause-somewhere
take_line-requires-clause-somewhere g c =
    let begun = c.requires.begun in
    let gives = subst (λ (o : Option CertRecord). GivesRecord c.lines.reader c.next.new.self (Ok o)) c.in-Some.is c.in_ok-step.ensures.gives in
    somewhere (g.K.Kind.files c.args.kind.now) begun.0 None begun.1 c.lines.reader None c.lines.kept.checker c.lines.kept.notes
    (c.lines.invariant.some begun.0 begun.1 begun.2) c.lines-line.result (c.lines-line.ensures.value ∙ ap (λ (v : ReaderView). v.lines) gives)
    (omega arith)

pub returns-in_err-take_line-clause-text : goal.returns-in_err-take_line-clause-text
returns-in_err-take_line-clause-text g c = λ limits told h x.
    let kind = g.K.Kind.files c.args.kind.now in
    let left : Option (List ℕ) = text_left c.lines.reader (g.D.Desk.view c.lines.desk) in
    let after : Option (List ℕ) = text_left c.next.new.self (g.D.Desk.view c.next.new.desk) in
    let answers = subst (λ (o : Option CertRecord). WhereTold left after (λ rest more. RecordAnswers c.lines.reader rest more (Ok o))) c.in-Some.is
    c.in_ok-step.ensures.text in
    let gives = subst (λ (o : Option CertRecord). GivesRecord c.lines.reader c.next.new.self (Ok o)) c.in-Some.is c.in_ok-step.ensures.gives in
    by_exit (λ (r : Result (Unit {0}) ReadCertError). OfText told (λ text. TextAnswers kind limits h (λ (u : Unit {0}). c.take_line.new.kept.notes) text r))
    c.from_residual-in_err-take_line.result c.in_err-take_line.field-0.0 c.from_residual-in_err-take_line.ensures.1
    (line-stops kind limits told h c.lines.reader left c.lines.kept.checker c.lines.kept.notes (c.lines.invariant.told limits told h x) c.laws.ensures
    c.keeps_invariant.ensures after c.in-Some.step answers c.lines-line.result
    (c.lines-line.ensures.value ∙ ap (λ (v : ReaderView). v.lines) gives) c.in_err-take_line.field-0.0 c.in_err-take_line.ensures.err)

pub returns-in_err-take_line-clause-some : goal.returns-in_err-take_line-clause-some
returns-in_err-take_line-clause-some g c = λ limits h x.
    let kind = g.K.Kind.files c.args.kind.now in
    let y = c.lines.invariant.some limits h x in
    let rest : List ℕ = record_text c.in-Some.step ++ line_feed ∷ [] in
    let text : List ℕ = file_text (kind.file.heading_text h) y.before ++ rest in
    let some = subst (λ (o : Option CertRecord). RecordOfSome c.lines.reader (Ok o)) c.in-Some.is c.in_ok-step.ensures.some in
    let gives = subst (λ (o : Option CertRecord). GivesRecord c.lines.reader c.next.new.self (Ok o)) c.in-Some.is c.in_ok-step.ensures.gives in
    by_exit (λ (r : Result (Unit {0}) ReadCertError). (text : List ℕ) × TextAnswers kind limits h (λ (u : Unit {0}). c.take_line.new.kept.notes) text r)
    c.from_residual-in_err-take_line.result c.in_err-take_line.field-0.0 c.from_residual-in_err-take_line.ensures.1 (
      text,
      line-stops kind limits (Some text) h c.lines.reader (Some rest) c.lines.kept.checker c.lines.kept.notes
          (at-bytes kind limits h c.lines.reader c.lines.kept.checker c.lines.kept.notes y rest) c.laws.ensures c.keeps_invariant.ensures (Some [])
          c.in-Some.step ([], refl, some []) c.lines-line.result (c.lines-line.ensures.value ∙ ap (λ (v : ReaderView). v.lines) gives)
          c.in_err-take_line.field-0.0 c.in_err-take_line.ensures.err,
    )

pub returns-in_err-take_line-clause-cause : goal.returns-in_err-take_line-clause-cause
returns-in_err-take_line-clause-cause g c =
    let kind = g.K.Kind.files c.args.kind.now in
    let begun = c.requires.begun in
    let entry : DeskView = g.D.Desk.view c.args.desk.now in
    let old : DeskView = g.D.Desk.view c.lines.desk in
    let new : DeskView = g.D.Desk.view c.next.new.desk in
    by_exit (λ (r : Result (Unit {0}) ReadCertError). IfErr r (TextCause entry new)) c.from_residual-in_err-take_line.result
    c.in_err-take_line.field-0.0 c.from_residual-in_err-take_line.ensures.1
    (line-cause kind begun.0 None begun.1 c.lines.reader None c.lines.kept.checker c.lines.kept.notes (c.lines.invariant.some begun.0 begun.1 begun.2)
    c.in-Some.step c.lines-line.result entry new c.in_err-take_line.field-0.0 c.in_err-take_line.ensures.err)

pub lines-preserved : goal.lines-preserved
lines-preserved g c =
    let kind = g.K.Kind.files c.args.kind.now in
    let left : Option (List ℕ) = text_left c.lines.reader (g.D.Desk.view c.lines.desk) in
    let after : Option (List ℕ) = text_left c.next.new.self (g.D.Desk.view c.next.new.desk) in
    let old : DeskView = g.D.Desk.view c.lines.desk in
    let new : DeskView = g.D.Desk.view c.next.new.desk in
    let answers = subst (λ (o : Option CertRecord). WhereTold left after (λ rest more. RecordAnswers c.lines.reader rest more (Ok o))) c.in-Some.is
    c.in_ok-step.ensures.text in
    let cause = subst (λ (o : Option CertRecord). RecordCause c.lines.reader c.next.new.self old new (Ok o)) c.in-Some.is c.in_ok-step.ensures.cause in
    let gives = subst (λ (o : Option CertRecord). GivesRecord c.lines.reader c.next.new.self (Ok o)) c.in-Some.is c.in_ok-step.ensures.gives in
    let some = subst (λ (o : Option CertRecord). RecordOfSome c.lines.reader (Ok o)) c.in-Some.is c.in_ok-step.ensures.some in
    record {
      some = λ limits h x. next-checked kind limits None h c.lines.reader None c.lines.kept.checker c.lines.kept.notes
          (c.lines.invariant.some limits h x) c.laws.ensures c.keeps_invariant.ensures None c.in-Some.step refl c.next.new.self old new cause some gives
          c.take_line.new.kept.checker c.take_line.new.kept.notes c.in_ok-take_line.ensures.ok;
      told = λ limits told h x. next-checked kind limits told h c.lines.reader left c.lines.kept.checker c.lines.kept.notes
          (c.lines.invariant.told limits told h x) c.laws.ensures c.keeps_invariant.ensures after c.in-Some.step answers c.next.new.self old new cause
          some gives c.take_line.new.kept.checker c.take_line.new.kept.notes c.in_ok-take_line.ensures.ok;
      reading = c.next.ensures.reading;
      only_reads = reads_on (g.D.Desk.view c.args.desk.now) old new c.lines.invariant.only_reads c.next.ensures.only_reads;
    }
