-- What a reader of certificates knows, and what it answers.
use Rattle.std.specs.Prelude.{◌≢◌, ◌⊎◌, ◌≡◌, ℕ, ◌+◌, ◌-◌, ◌<◌, Bool, false, IsTrue, List, [], ◌∷◌, ◌++◌, length}
use Rattle.std.specs.Prelude.{take, Option, Some, None, Result, Ok, Err}
use Rattle.dist_base.specs.Ascii.{line_feed}
use Rattle.dist_outside.specs.Counts.{Rose}
use Rattle.dist_outside.specs.DeskView.{DeskView}
use Rattle.dist_outside.specs.Reading.{bytes_left}
use Rattle.dist_outside.specs.declared.limits.Limits.{Limits}
use Rattle.dist_outside.specs.declared.trouble.What.TheVariants.{Certificate}
use Rattle.dist_outside.specs.declared.trouble.WorkError.TheVariants.{ReadFault, TooLarge, NoMemory}
use Rattle.dist_cert.specs.declared.faults.CertCause.{CertCause}
use Rattle.dist_cert.specs.declared.faults.CertCause.TheVariants as causes
use Rattle.dist_cert.specs.declared.faults.ReadCertError.{ReadCertError}
use Rattle.dist_cert.specs.declared.faults.ReadCertError.TheVariants.{Bad, Work}
use Rattle.dist_cert.specs.declared.records.CertRecord.{CertRecord}
use Rattle.dist_cert.specs.declared.records.Header.{Header}
use Rattle.dist_cert.specs.Form.{record_text, HasForm, is_end, header_text, HasHeaderForm}
use Rattle.dist_cert.specs.FileLines.{IsOneLine, BeginsWith, IsTooLong}

-- ---- a reader

-- the limits, the bytes that came and were not given yet, how many bytes were given, and how many lines, and whether
-- the end was one of them
pub record ReaderView : Type 0 where
  pub limits : Limits
  pub held : List ℕ
  pub given : ℕ
  pub lines : ℕ
  pub ended : Bool

-- bytes that came, and those behind them where they are told
abbrev pub in_front : List ℕ → Option (List ℕ) → Option (List ℕ)
in_front held None = None
in_front held (Some bytes) = Some (held ++ bytes)

-- the text that is left to give, where the desk tells it
abbrev pub text_left : ReaderView → DeskView → Option (List ℕ)
text_left r desk = in_front r.held (bytes_left desk.files desk.mode)

-- Where a text was told before a call, it is told after it too, and this holds of the two.
abbrev pub WhereTold : Option (List ℕ) → Option (List ℕ) → (List ℕ → List ℕ → Type 0) → Type 0
WhereTold None after R = after ≡ None
WhereTold (Some rest) after R = (more : List ℕ) × (after ≡ Some more) × R rest more

-- ---- the limits

-- The byte that passes the limit of the whole, of which so many bytes were given, is one of this line, which is not too
-- long before it.
pub record PassesWhole (limits : Limits) (given : ℕ) (rest : List ℕ) : Type 0 where
  pub passed : limits.certificate < given + length rest
  pub in_line : IsOneLine (take (limits.certificate - given) rest)
  pub not_before : limits.certificate < given + limits.record_line

-- the line passes neither limit
pub record KeepsLimits (limits : Limits) (given : ℕ) (rest : List ℕ) : Type 0 where
  pub whole : ¬ PassesWhole limits given rest
  pub line : ¬ IsTooLong limits rest

-- ---- the first line

-- The text begins with the line of this header, and `more` is behind it.
pub record IsHeaderNext (r : ReaderView) (rest more : List ℕ) (h : Header) : Type 0 where
  pub limits : KeepsLimits r.limits r.given rest
  pub line : List ℕ
  pub begins : BeginsWith rest line more
  pub form : HasHeaderForm line h

-- the line has a line feed, and no form of a first line
abbrev pub HasNoHeader : List ℕ → Type 0
HasNoHeader rest = (line more : List ℕ) × BeginsWith rest line more × ((h : Header) → ¬ HasHeaderForm line h)

-- the first of the faults of form, cut and length that the first line has on its own
abbrev pub HeaderFault : ReaderView → List ℕ → CertCause → Type 0
HeaderFault r rest causes.LineTooLong = (¬ PassesWhole r.limits r.given rest) × IsTooLong r.limits rest
HeaderFault r rest causes.Truncated = KeepsLimits r.limits r.given rest × IsOneLine rest
HeaderFault r rest causes.BadHeader = KeepsLimits r.limits r.given rest × HasNoHeader rest
HeaderFault r rest cause = ⊥

-- When each answer is given, and what is left then. Each two exclude one another (law `reader_is_exact`), but for a
-- fault of the desk and want of memory, which may come in place of any.
abbrev pub HeaderAnswers : ReaderView → List ℕ → List ℕ → Result Header ReadCertError → Type 0
HeaderAnswers r rest more (Ok h) = IsHeaderNext r rest more h
HeaderAnswers r rest more (Err (Bad fault)) = HeaderFault r rest fault.cause × (more ≡ rest)
HeaderAnswers r rest more (Err (Work (TooLarge Certificate))) = PassesWhole r.limits r.given rest × (more ≡ rest)
HeaderAnswers r rest more (Err error) = more ≡ rest

-- ---- a later line

-- The text begins with the line of this record, no end was before it, and `more` is behind it.
pub record IsRecordNext (r : ReaderView) (rest more : List ℕ) (step : CertRecord) : Type 0 where
  pub limits : KeepsLimits r.limits r.given rest
  pub not_ended : r.ended ≡ false
  pub line : List ℕ
  pub begins : BeginsWith rest line more
  pub form : HasForm line step

-- the end was given, and nothing is behind it
pub record IsAtEnd (r : ReaderView) (rest : List ℕ) : Type 0 where
  pub limits : KeepsLimits r.limits r.given rest
  pub ended : IsTrue r.ended
  pub nothing : rest ≡ []

-- the text ends within the line, or before it where the end was not read
abbrev pub IsCutRead : Bool → List ℕ → Type 0
IsCutRead ended rest = IsOneLine rest × ((rest ≢ []) ⊎ (¬ IsTrue ended))

-- the line has a line feed, and stands behind the end or has no form
abbrev pub IsBadRead : Bool → List ℕ → Type 0
IsBadRead ended rest = (line more : List ℕ) × BeginsWith rest line more
    × (IsTrue ended ⊎ ((step : CertRecord) → ¬ HasForm line step))

-- the first of the faults of form, cut and length that a later line has on its own
abbrev pub RecordFault : ReaderView → List ℕ → CertCause → Type 0
RecordFault r rest causes.LineTooLong = (¬ PassesWhole r.limits r.given rest) × IsTooLong r.limits rest
RecordFault r rest causes.Truncated = KeepsLimits r.limits r.given rest × IsCutRead r.ended rest
RecordFault r rest causes.BadRecord = KeepsLimits r.limits r.given rest × IsBadRead r.ended rest
RecordFault r rest cause = ⊥

-- The same as `HeaderAnswers` of a later line.
abbrev pub RecordAnswers : ReaderView → List ℕ → List ℕ → Result (Option CertRecord) ReadCertError → Type 0
RecordAnswers r rest more (Ok (Some step)) = IsRecordNext r rest more step
RecordAnswers r rest more (Ok None) = IsAtEnd r rest × (more ≡ rest)
RecordAnswers r rest more (Err (Bad fault)) = RecordFault r rest fault.cause × (more ≡ rest)
RecordAnswers r rest more (Err (Work (TooLarge Certificate))) = PassesWhole r.limits r.given rest × (more ≡ rest)
RecordAnswers r rest more (Err error) = more ≡ rest

-- ---- whatever the desk tells

-- the causes that a first line, and a later one, have on their own
abbrev pub IsHeaderCause : CertCause → Type 0
IsHeaderCause causes.LineTooLong = Unit {0}
IsHeaderCause causes.Truncated = Unit {0}
IsHeaderCause causes.BadHeader = Unit {0}
IsHeaderCause cause = ⊥

-- the causes that a later line may have on its own
abbrev pub IsRecordCause : CertCause → Type 0
IsRecordCause causes.LineTooLong = Unit {0}
IsRecordCause causes.Truncated = Unit {0}
IsRecordCause causes.BadRecord = Unit {0}
IsRecordCause cause = ⊥

-- why the work was given up: more bytes came than the limit of the whole; the desk failed in this call; no memory
abbrev pub WorkCause : ReaderView → DeskView → DeskView → ReadCertError → Type 0
WorkCause new before after (Work (TooLarge Certificate)) = new.limits.certificate < new.given + length new.held
WorkCause new before after (Work ReadFault) = Rose before.read_faults after.read_faults
WorkCause new before after (Work NoMemory) = Unit {0}
WorkCause new before after error = ⊥

-- a header that is given keeps the rules, and a fault is of the next line
abbrev pub HeaderCause : ReaderView → ReaderView → DeskView → DeskView → Result Header ReadCertError → Type 0
HeaderCause old new before after (Ok h) = HasHeaderForm (header_text h) h
HeaderCause old new before after (Err (Bad fault)) = (fault.line ≡ old.lines + 1) × IsHeaderCause fault.cause
HeaderCause old new before after (Err error) = WorkCause new before after error

-- the same of a record, and none comes behind the end
abbrev pub RecordCause : ReaderView → ReaderView → DeskView → DeskView → Result (Option CertRecord) ReadCertError
    → Type 0
RecordCause old new before after (Ok (Some step)) = HasForm (record_text step) step × (old.ended ≡ false)
RecordCause old new before after (Ok None) = IsTrue old.ended
RecordCause old new before after (Err (Bad fault)) = (fault.line ≡ old.lines + 1) × IsRecordCause fault.cause
RecordCause old new before after (Err error) = WorkCause new before after error

-- The answer is right for some bytes: for the line that is given, with any bytes behind it, or for some bytes at which
-- the reader stops.
abbrev pub HeaderOfSome : ReaderView → Result Header ReadCertError → Type 0
HeaderOfSome r (Ok h) = (more : List ℕ) → HeaderAnswers r (header_text h ++ line_feed ∷ more) more (Ok h)
HeaderOfSome r (Err error) = (rest : List ℕ) × HeaderAnswers r rest rest (Err error)

abbrev pub RecordOfSome : ReaderView → Result (Option CertRecord) ReadCertError → Type 0
RecordOfSome r (Ok (Some step)) = (more : List ℕ)
    → RecordAnswers r (record_text step ++ line_feed ∷ more) more (Ok (Some step))
RecordOfSome r (Ok None) = RecordAnswers r [] [] (Ok None)
RecordOfSome r (Err error) = (rest : List ℕ) × RecordAnswers r rest rest (Err error)

-- ---- the reader after a call

-- the reader once it gave this line, and holds these bytes
abbrev pub past_line : ReaderView → List ℕ → List ℕ → ReaderView
past_line r held line = record r { held = held; given = r.given + (length line + 1); lines = r.lines + 1 }

-- It gave the line of the header, and else nothing. It may hold more bytes than before.
abbrev pub GivesHeader : ReaderView → ReaderView → Result Header ReadCertError → Type 0
GivesHeader old new (Ok h) = new ≡ past_line old new.held (header_text h)
GivesHeader old new (Err error) = new ≡ record old { held = new.held }

-- the reader after a call: past the line of the record that it gives, and else as before, but for bytes that came
abbrev pub GivesRecord : ReaderView → ReaderView → Result (Option CertRecord) ReadCertError → Type 0
GivesRecord old new (Ok (Some step)) = new ≡ record (past_line old new.held (record_text step)) { ended = is_end step }
GivesRecord old new other = new ≡ record old { held = new.held }
