-- How the check of a text begins.
use Rattle.std.proofs.Common.{◌≡◌, inl, ⊎_elim, ℕ, List, [], ◌∷◌, ◌++◌, Option, Some, None, Ok, Err, length, sym, ap, subst, ◌∙◌, arith}
use Rattle.dist_base.specs.Ascii.{line_feed}
use Rattle.dist_outside.specs.DeskView.{DeskView}
use Rattle.dist_outside.specs.declared.limits.Limits.{Limits}
use Rattle.dist_outside.specs.declared.trouble.What.{What}
use Rattle.dist_outside.specs.declared.trouble.What.TheVariants.{Variables, Clauses, Literals, Certificate}
use Rattle.dist_outside.specs.declared.trouble.WorkError.TheVariants.{ReadFault, WriteFault, TooLarge, NoMemory}
use Rattle.dist_cert.specs.declared.faults.CertCause.{CertCause}
use Rattle.dist_cert.specs.declared.faults.CertCause.TheVariants as faults
use Rattle.dist_cert.specs.declared.faults.ReadCertError.{ReadCertError}
use Rattle.dist_cert.specs.declared.faults.ReadCertError.TheVariants.{Bad, Work}
use Rattle.dist_cert.specs.FileLines.{AreRight}
use Rattle.dist_cert.specs.FirstLine.{FirstAnswers, FirstCause, FirstOfSome, GivesFirst, IsLineNext, LineFault}
use Rattle.dist_clause.specs.Formula.{Literal}
use Rattle.dist_cert.specs.GroupLaws.{none-first}
use Rattle.dist_cert.specs.Reading.{KeepsLimits, PassesWhole, ReaderView, WhereTold}
use Rattle.dist_judge.specs.ClearKindLaws.{IsClear}
use Rattle.dist_judge.specs.FileKind.{rules_of}
use Rattle.dist_judge.specs.HeadingLaws.{IsHeadingFault, heading_refused, heading_unfit, starts_faultless}
use Rattle.dist_judge.specs.Judging.{HasLargeInputs, OfText, StopsFirst, StopsWith}
use Rattle.dist_judge.specs.ReadingLaws.{TextAt, from_text, new_reader, starts_read}
use Rattle.dist_line_check.specs.Checked.{IsChecked}
use Rattle.dist_line_check.specs.Checker.{CheckerView}
use Rattle.dist_line_check.specs.LinesAt.{AreFuturesBy, IsQuestionOf}
use Rattle.dist_findings.specs.AnswerLines.{answer_lines}
use Rattle.dist_findings.specs.Unclaimed.{clauses_alone}
use Rattle.dist_findings.proofs.AnswerNotes.{futures, judges}
use Rattle.dist_findings.specs.AnswerFiles.{AnswerFile, HasHeading, Inputs, files_of}
use Rattle.dist_findings.specs.BegunPrivate.{BeginFails, IsBegun, IsUnfit}
use Rattle.dist_findings.specs.Findings.{findings_behind}
use Rattle.dist_findings.specs.declared.finding.Finding.{Finding}
use Rattle.std.proofs.lemmas.List.{append-nil}

no_inputs : Inputs
no_inputs = record { variables = 0; clauses = [] }

-- a fault that the first line has on its own
line-fault : (file : AnswerFile) (limits : Limits) (reader : ReaderView) → reader ≡ new_reader limits → (text : List ℕ) (cause : CertCause)
    → LineFault reader text cause → IsHeadingFault (files_of file) limits text cause
line-fault file limits reader is text cause fault = by cause (subst (λ v. LineFault v text cause) is fault)
  where
    by : (c : CertCause) → LineFault (new_reader limits) text c → IsHeadingFault (files_of file) limits text c
    by faults.LineTooLong f = f
    by faults.Truncated f = f
    by c f = absurd f

pub first-stops : (file : AnswerFile) (limits : Limits) (reader next : ReaderView) (told left after : Option (List ℕ)) (old new : DeskView)
    → reader ≡ new_reader limits → left ≡ told → (error : ReadCertError) → WhereTold left after (λ rest more. FirstAnswers reader rest more (Err error))
    → FirstCause reader next old new (Err error) → OfText told (λ text. StopsWith (files_of file) limits text error)
first-stops file limits reader next told left after old new is same error answers cause = by told same
  where
    at : (text more : List ℕ) (e : ReadCertError) → FirstAnswers reader text more (Err e) → FirstCause reader next old new (Err e)
        → StopsWith (files_of file) limits text e
    at text more (Bad fault) answer because = inl (
      omega (arith, because.0, ap (λ (v : ReaderView). v.lines) is),
      heading_refused (files_of file) no_inputs limits text fault.cause (line-fault file limits reader is text fault.cause answer.0),
    )
    at text more (Work ReadFault) answer because = tt
    at text more (Work NoMemory) answer because = tt
    at text more (Work WriteFault) answer because = because
    at text more (Work (TooLarge Certificate)) answer because = inl (subst (λ v. PassesWhole v.limits v.given text) is answer.0)
    at text more (Work (TooLarge what)) answer because = absurd because

    by : (t : Option (List ℕ)) → left ≡ t → OfText t (λ text. StopsWith (files_of file) limits text error)
    by None e = tt
    by (Some text) e = let answer = subst (λ l. WhereTold l after (λ rest more. FirstAnswers reader rest more (Err error))) e answers in
        at text answer.0 error answer.2 cause

module _ (file : AnswerFile) (clear : IsClear (files_of file)) (limits : Limits) (reader next : ReaderView) (told left after : Option (List ℕ))
    (line : List ℕ) (is : reader ≡ new_reader limits) (same : left ≡ told)
    (answers : WhereTold left after (λ rest more. FirstAnswers reader rest more (Ok line))) where
  keeps : (text more : List ℕ) → IsLineNext reader text more line → KeepsLimits limits 0 text
  keeps text more here = subst (λ v. KeepsLimits v.limits v.given text) is here.limits

  where-told : {P : List ℕ → Type 0} → ((text more : List ℕ) → IsLineNext reader text more line → P text) → OfText told P
  where-told {P} at = by told same
    where
      by : (t : Option (List ℕ)) → left ≡ t → OfText t P
      by None e = tt
      by (Some text) e = let answer = subst (λ l. WhereTold l after (λ rest more. FirstAnswers reader rest more (Ok line))) e answers in
          at text answer.0 answer.2

  pub begin-stops : (error : ReadCertError) → BeginFails file limits line error → OfText told (λ text. StopsWith (files_of file) limits text error)
  begin-stops error stops = where-told (λ text more here. at text more here error stops)
    where
      large : (text more : List ℕ) → IsLineNext reader text more line → (what : What) (ns : List ℕ) → HasHeading file line ns
          → file.PassesFirst ns limits what → HasLargeInputs (files_of file) limits text what
      large text more here what ns heading passes = record {
        keeps = keeps text more here;
        h = ns;
        line = line;
        more = more;
        begins = here.begins;
        form = heading;
        passes = passes;
      }

      unfit : (text more : List ℕ) → IsLineNext reader text more line → IsUnfit file limits line → StopsFirst (files_of file) limits text faults.BadHeader
      unfit text more here = ⊎_elim
          (λ none. heading_refused (files_of file) no_inputs limits text faults.BadHeader (keeps text more here, line, more, here.begins, none))
          (λ wrong. heading_unfit (files_of file) clear wrong.2.basis limits text line more wrong.0 (keeps text more here) here.begins wrong.1
          wrong.2.is_basis wrong.2.within wrong.2.wrong)

      at : (text more : List ℕ) → IsLineNext reader text more line → (e : ReadCertError) → BeginFails file limits line e
          → StopsWith (files_of file) limits text e
      at text more here (Bad fault) stop = inl (
        stop.0,
        subst (StopsFirst (files_of file) limits text) (sym stop.1) (unfit text more here stop.2),
      )
      at text more here (Work NoMemory) stop = tt
      at text more here (Work (TooLarge Variables)) stop = large text more here Variables stop.0 stop.1 stop.2
      at text more here (Work (TooLarge Clauses)) stop = large text more here Clauses stop.0 stop.1 stop.2
      at text more here (Work (TooLarge Literals)) stop = large text more here Literals stop.0 stop.1 stop.2
      at text more here (Work error) stop = absurd stop.2

  pub begins-checked : {N : Type 0} (noted : List ℕ → List Finding → N → Type 0) → FirstOfSome reader (Ok line) → GivesFirst reader next (Ok line)
      → (numbers : List ℕ) (c : CheckerView) (notes : N) → IsBegun file limits line numbers c → noted numbers [] notes
      → IsChecked (answer_lines file noted) limits told numbers next after c notes
  unfolding findings_behind
  begins-checked noted some gives numbers c notes begun noted_is = record {
    basis = begun.basis;
    before = [];
    read = starts_read (files_of file) limits told begun.basis numbers next after begun.is_basis begun.limited
        (ap (λ (v : ReaderView). v.limits) gives ∙ ap (λ (v : ReaderView). v.limits) is)
        (omega (arith, ap (λ (v : ReaderView). v.lines) gives, ap (λ (v : ReaderView). v.lines) is))
        (omega (arith, ap (λ (v : ReaderView). v.given) gives, ap (λ (v : ReaderView). v.given) is, ap (λ (l : List ℕ). length l) begun.heading.text))
        (ap (λ (v : ReaderView). v.ended) gives ∙ ap (λ (v : ReaderView). v.ended) is) (by told same);
    reached = record {
      kept = record {
        limit_is = begun.limit;
        log_of = record {
          clauses = begun.clauses ∙ sym (append-nil begun.basis.clauses);
          inputs_are = begun.counted ∙ ap (λ (cs : List (List Literal)). length cs) begun.clauses;
          variables = begun.variables;
        };
        question_of = subst (IsQuestionOf begun.basis.clauses []) (sym begun.question) none-first;
        future_is = subst (AreFuturesBy (clauses_alone begun.basis.variables begun.basis.clauses)) (sym begun.future)
            (futures begun.basis.variables begun.basis.clauses);
        judges = judges begun.basis.variables begun.basis.clauses;
        today = λ strong members. tt;
      };
      line_limit = begun.line_limit;
      line_literal_limit = begun.line_literal_limit;
      within = begun.within;
      noted = noted_is;
    };
  }
    where
      at : (text more : List ℕ) → IsLineNext reader text more line → AreRight (rules_of (files_of file) begun.basis) limits text numbers [] more
      at text more here = starts_faultless (files_of file) clear begun.basis limits text line more numbers (keeps text more here) here.begins begun.heading
          begun.fits

      by : (t : Option (List ℕ)) → left ≡ t → TextAt (files_of file) limits begun.basis numbers [] t after
      by None e = λ more. from_text (files_of file) limits begun.basis (line ++ line_feed ∷ more) numbers [] more
          (at (line ++ line_feed ∷ more) more (some more))
      by (Some text) e =
          let answer = subst (λ l. WhereTold l after (λ rest more. FirstAnswers reader rest more (Ok line))) e answers in
          (answer.0, answer.1, at text answer.0 answer.2)
