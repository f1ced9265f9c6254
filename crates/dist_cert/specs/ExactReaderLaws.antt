-- That a reader has one answer to a text, but for a fault of the desk and want of memory.
use Rattle.std.specs.Prelude.{◌≡◌, ℕ, List, Option, Some, None, Result, Ok, Err}
use Rattle.dist_outside.specs.declared.trouble.What.TheVariants.{Certificate}
use Rattle.dist_outside.specs.declared.trouble.WorkError.TheVariants.{TooLarge}
use Rattle.dist_cert.specs.declared.faults.CertCause.{CertCause}
use Rattle.dist_cert.specs.declared.faults.ReadCertError.{ReadCertError}
use Rattle.dist_cert.specs.declared.faults.ReadCertError.TheVariants.{Bad, Work}
use Rattle.dist_cert.specs.declared.records.CertRecord.{CertRecord}
use Rattle.dist_cert.specs.declared.records.Header.{Header}
use Rattle.dist_cert.specs.Reading.{ReaderView, PassesWhole, IsHeaderNext, HeaderFault, HeaderAnswers, IsRecordNext}
use Rattle.dist_cert.specs.Reading.{IsAtEnd, RecordFault, RecordAnswers}
use Rattle.dist_cert.specs.ReadBackLaws.{IsGiven}

-- A call refused the text for this cause, or that it is too large. As in `IsGiven`, the desk may fail or memory be
-- missing.
abbrev pub IsRefusedFor : {X : Type 0} → Result X ReadCertError → CertCause → Type 0
IsRefusedFor (Ok x) cause = ⊥
IsRefusedFor (Err (Bad fault)) cause = fault.cause ≡ cause
IsRefusedFor (Err (Work (TooLarge Certificate))) cause = ⊥
IsRefusedFor (Err error) cause = Unit {0}

abbrev pub IsTooLarge : {X : Type 0} → Result X ReadCertError → Type 0
IsTooLarge (Ok x) = ⊥
IsTooLarge (Err (Bad fault)) = ⊥
IsTooLarge (Err error) = Unit {0}

-- What the text is decides the answer. The law `reader_is_exact` says that it is so.
pub record ReaderIsExact : Type 0 where
  pub header_given : (r : ReaderView) (rest behind more : List ℕ) (h : Header) (answer : Result Header ReadCertError)
      → IsHeaderNext r rest behind h → HeaderAnswers r rest more answer → IsGiven answer h behind more
  pub header_refused : (r : ReaderView) (rest more : List ℕ) (cause : CertCause) (answer : Result Header ReadCertError)
      → HeaderFault r rest cause → HeaderAnswers r rest more answer → IsRefusedFor answer cause
  pub header_too_large : (r : ReaderView) (rest more : List ℕ) (answer : Result Header ReadCertError)
      → PassesWhole r.limits r.given rest → HeaderAnswers r rest more answer → IsTooLarge answer
  pub record_given : (r : ReaderView) (rest behind more : List ℕ) (step : CertRecord)
      (answer : Result (Option CertRecord) ReadCertError)
      → IsRecordNext r rest behind step → RecordAnswers r rest more answer → IsGiven answer (Some step) behind more
  pub text_ends : (r : ReaderView) (rest more : List ℕ) (answer : Result (Option CertRecord) ReadCertError)
      → IsAtEnd r rest → RecordAnswers r rest more answer → IsGiven answer None rest more
  pub record_refused : (r : ReaderView) (rest more : List ℕ) (cause : CertCause)
      (answer : Result (Option CertRecord) ReadCertError)
      → RecordFault r rest cause → RecordAnswers r rest more answer → IsRefusedFor answer cause
  pub record_too_large : (r : ReaderView) (rest more : List ℕ) (answer : Result (Option CertRecord) ReadCertError)
      → PassesWhole r.limits r.given rest → RecordAnswers r rest more answer → IsTooLarge answer
