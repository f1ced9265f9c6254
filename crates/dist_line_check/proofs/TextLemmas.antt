-- What holds at each line of a text that is checked.
use Rattle.std.proofs.Common.{◌≡◌, ℕ, ◌+◌, ◌<◌, ◌≤◌, ◌^◌, List, [], ◌∷◌, ◌++◌, Option, Some, None, Ok, Err, arith}
use Rattle.dist_outside.specs.DeskView.{DeskView}
use Rattle.dist_outside.specs.declared.limits.Limits.{Limits}
use Rattle.dist_outside.specs.declared.trouble.What.TheVariants.{Lines, LineLiterals}
use Rattle.dist_outside.specs.declared.trouble.WorkError.TheVariants.{TooLarge, NoMemory}
use Rattle.dist_cert.specs.declared.faults.ReadCertError.{ReadCertError}
use Rattle.dist_cert.specs.declared.faults.ReadCertError.TheVariants.{Bad, Work}
use Rattle.dist_cert.specs.declared.records.CertRecord.{CertRecord}
use Rattle.dist_cert.specs.FileLines.{file_text}
use Rattle.dist_cert.specs.Reading.{ReaderView, WhereTold, RecordAnswers, RecordCause, RecordOfSome, GivesRecord}
use Rattle.dist_judge.specs.Causes.{TextCause}
use Rattle.dist_judge.specs.Judging.{IsCompleted, OfText, StopsWith}
use Rattle.dist_judge.specs.ReadingLaws as reading
use Rattle.dist_line_check.specs.Checked.{IsChecked}
use Rattle.dist_line_check.specs.Checker.{CheckerView}
use Rattle.dist_line_check.specs.Kinds.{IsBehind, IsLineKind, IsSomewhere, LineKind, LineStops, TakesLine}
use Rattle.dist_line_check.specs.LinesAtLaws.{lines-kept}

-- the text of the lines that were read, with any bytes behind them
pub at-bytes : {N : Type 0} (kind : LineKind N) (limits : Limits) (h : kind.file.Heading) (reader : ReaderView) (c : CheckerView) (notes : N)
    (x : IsChecked kind limits None h reader None c notes) (rest : List ℕ)
    → IsChecked kind limits (Some (file_text (kind.file.heading_text h) x.before ++ rest)) h reader (Some rest) c notes
at-bytes kind limits h reader c notes x rest = record {
  basis = x.basis;
  before = x.before;
  read = reading.at_bytes kind.file limits x.basis h x.before reader rest x.read;
  reached = x.reached;
}

module _ {N : Type 0} (kind : LineKind N) (limits : Limits) (told : Option (List ℕ)) (h : kind.file.Heading) (reader : ReaderView)
    (left : Option (List ℕ)) (c : CheckerView) (notes : N) (x : IsChecked kind limits told h reader left c notes) where
  are-behind : IsBehind kind limits x.basis h x.before c notes
  are-behind = record { faultless = x.read.faultless; forms = x.read.forms; reached = x.reached }

  pub somewhere : (line : ℕ) → line ≡ reader.lines + 1 → line < 2 ^ 64 → IsSomewhere kind c notes
  somewhere line is fits = (limits, x.basis, h, x.before, are-behind, omega (arith, x.read.line_count, is, fits))

  -- why a line is not taken
  pub line-cause : (step : CertRecord) (line : ℕ) (old new : DeskView) (error : ReadCertError) → LineStops kind c notes step line error
      → TextCause old new error
  line-cause step line old new error stops = by error (stops limits x.basis h x.before are-behind)
    where
      by : (e : ReadCertError) → reading.LineStops kind.file limits x.basis h x.before step line e → TextCause old new e
      by (Bad fault) is = tt
      by (Work NoMemory) is = tt
      by (Work (TooLarge Lines)) is = tt
      by (Work (TooLarge LineLiterals)) is = tt
      by (Work e) is = absurd is

  module _ (laws : IsLineKind kind) (bytes : reader.given ≤ reader.limits.certificate) where
    pub next-stops : (next : ReaderView) (after : Option (List ℕ)) (old new : DeskView) (error : ReadCertError)
        → WhereTold left after (λ rest more. RecordAnswers reader rest more (Err error)) → RecordCause reader next old new (Err error)
        → OfText told (λ text. StopsWith kind.file limits text error)
    next-stops = reading.next_stops kind.file laws.clear limits told x.basis h x.before reader left x.read bytes

    pub completes : (after : Option (List ℕ)) → WhereTold left after (λ rest more. RecordAnswers reader rest more (Ok None))
        → OfText told (λ text. IsCompleted kind.file limits text h (λ basis steps. kind.Noted basis h steps notes))
    completes after answers = reading.completes kind.file laws.clear limits told x.basis h x.before reader left x.read bytes after answers
        (λ basis steps. kind.Noted basis h steps notes) x.reached.noted

    module _ (after : Option (List ℕ)) (step : CertRecord)
        (answers : WhereTold left after (λ rest more. RecordAnswers reader rest more (Ok (Some step)))) where
      pub line-stops : (line : ℕ) → line ≡ reader.lines + 1 → (error : ReadCertError) → LineStops kind c notes step line error
          → OfText told (λ text. StopsWith kind.file limits text error)
      line-stops line number error stops = reading.line_stops kind.file laws.clear limits told x.basis h x.before reader left x.read bytes
          after step line error answers number (stops limits x.basis h x.before are-behind)

      pub next-checked : (next : ReaderView) (old new : DeskView) → RecordCause reader next old new (Ok (Some step))
          → RecordOfSome reader (Ok (Some step)) → GivesRecord reader next (Ok (Some step)) → (d : CheckerView) (more : N)
          → TakesLine kind c notes step d more → IsChecked kind limits told h next after d more
      next-checked next old new because some gives d more takes =
          let taken = takes limits x.basis h x.before are-behind in
          let few = lines-kept (kind.matter x.basis).inputs (x.before ++ step ∷ []) d.log limits.lines limits.line_literals
          taken.1.kept.log_of.clauses taken.1.kept.log_of.inputs_are taken.1.line_limit taken.1.line_literal_limit taken.1.within in record {
            basis = x.basis;
            before = x.before ++ step ∷ [];
            read = reading.next_read kind.file laws.clear limits told x.basis h x.before reader left x.read bytes next after old new step
                answers because some gives taken.0 few.0 few.1;
            reached = taken.1;
          }
