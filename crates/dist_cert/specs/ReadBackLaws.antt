-- What a reader gives of the text of known lines.
use Rattle.std.specs.Prelude.{◌≡◌, ℕ, ◌<◌, ◌≤◌, false, List, [], ◌∷◌, ◌++◌, All, length, Option, Some, None, Result, Ok}
use Rattle.std.specs.Prelude.{Err}
use Rattle.dist_outside.specs.declared.limits.Limits.{Limits}
use Rattle.dist_outside.specs.declared.trouble.What.TheVariants.{Certificate}
use Rattle.dist_outside.specs.declared.trouble.WorkError.TheVariants.{TooLarge}
use Rattle.dist_cert.specs.declared.faults.ReadCertError.{ReadCertError}
use Rattle.dist_cert.specs.declared.faults.ReadCertError.TheVariants.{Bad, Work}
use Rattle.dist_cert.specs.declared.records.CertRecord.{CertRecord}
use Rattle.dist_cert.specs.declared.records.CertRecord.TheVariants.{End}
use Rattle.dist_cert.specs.declared.records.Header.{Header}
use Rattle.dist_cert.specs.Form.{record_text, HasForm, is_end, header_text, HasHeaderForm}
use Rattle.dist_cert.specs.Refusal.{certificate_text}
use Rattle.dist_cert.specs.Reading.{ReaderView, HeaderAnswers, RecordAnswers, past_line}

-- A writer can have written these lines within the limits: each has its form and is short enough with its line feed,
-- the last one and no other is the end, and the whole is within its limit.
pub record CanBeWritten (limits : Limits) (h : Header) (steps : List CertRecord) : Type 0 where
  pub header : HasHeaderForm (header_text h) h
  pub header_short : length (header_text h) < limits.record_line
  pub records : All (λ step. HasForm (record_text step) step) steps
  pub records_short : All (λ step. length (record_text step) < limits.record_line) steps
  pub not_ended : All (λ step. is_end step ≡ false) steps
  pub end_short : length (record_text End) < limits.record_line
  pub whole : length (certificate_text h (steps ++ End ∷ [])) ≤ limits.certificate

-- A call gave this, with `behind` left. A fault of the desk or want of memory may come in its place, and no other
-- refusal.
abbrev pub IsGiven : {X : Type 0} → Result X ReadCertError → X → List ℕ → List ℕ → Type 0
IsGiven (Ok given) x behind more = (given ≡ x) × (more ≡ behind)
IsGiven (Err (Bad fault)) x behind more = ⊥
IsGiven (Err (Work (TooLarge Certificate))) x behind more = ⊥
IsGiven (Err error) x behind more = Unit {0}

-- Whatever they hold between them, the next calls give these records of the text, one after another, and then that it
-- ends.
abbrev pub GivesRecords : ReaderView → List ℕ → List CertRecord → Type 0
GivesRecords r rest [] = (more : List ℕ) (answer : Result (Option CertRecord) ReadCertError)
    → RecordAnswers r rest more answer → IsGiven answer None rest more
GivesRecords r rest (step ∷ steps) = (behind : List ℕ)
    × ((more : List ℕ) (answer : Result (Option CertRecord) ReadCertError) → RecordAnswers r rest more answer
    → IsGiven answer (Some step) behind more)
    × ((held : List ℕ) → GivesRecords (record (past_line r held (record_text step)) { ended = is_end step }) behind
    steps)

-- the same of a whole text, with its header first
abbrev pub GivesText : Limits → List ℕ → Header → List CertRecord → Type 0
GivesText limits text h steps = let r : ReaderView =
    record { limits = limits; held = []; given = 0; lines = 0; ended = false } in
    (behind : List ℕ)
    × ((more : List ℕ) (answer : Result Header ReadCertError) → HeaderAnswers r text more answer
    → IsGiven answer h behind more)
    × ((held : List ℕ) → GivesRecords (past_line r held (header_text h)) behind steps)
