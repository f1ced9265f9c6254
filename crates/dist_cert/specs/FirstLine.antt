-- What a reader answers that is asked for the first line alone, whatever its form.
use Rattle.std.specs.Prelude.{◌≡◌, ℕ, ◌+◌, List, ◌∷◌, ◌++◌, Result, Ok, Err}
use Rattle.dist_base.specs.Ascii.{line_feed}
use Rattle.dist_outside.specs.DeskView.{DeskView}
use Rattle.dist_outside.specs.declared.trouble.What.TheVariants.{Certificate}
use Rattle.dist_outside.specs.declared.trouble.WorkError.TheVariants.{TooLarge}
use Rattle.dist_cert.specs.declared.faults.CertCause.{CertCause}
use Rattle.dist_cert.specs.declared.faults.CertCause.TheVariants as causes
use Rattle.dist_cert.specs.declared.faults.ReadCertError.{ReadCertError}
use Rattle.dist_cert.specs.declared.faults.ReadCertError.TheVariants.{Bad, Work}
use Rattle.dist_cert.specs.FileLines.{IsOneLine, BeginsWith, IsTooLong}
use Rattle.dist_cert.specs.Reading.{ReaderView, PassesWhole, KeepsLimits, WorkCause, past_line}

-- the bytes of what is given
abbrev pub bytes_of : {X E : Type 0} → (X → List ℕ) → Result X E → Result (List ℕ) E
bytes_of bytes (Ok line) = Ok (bytes line)
bytes_of bytes (Err error) = Err error

-- The text begins with this line within the limits, and `more` is behind it.
pub record IsLineNext (r : ReaderView) (rest more line : List ℕ) : Type 0 where
  pub limits : KeepsLimits r.limits r.given rest
  pub begins : BeginsWith rest line more

-- the first of the faults of cut and length that the line has on its own
abbrev pub LineFault : ReaderView → List ℕ → CertCause → Type 0
LineFault r rest causes.LineTooLong = (¬ PassesWhole r.limits r.given rest) × IsTooLong r.limits rest
LineFault r rest causes.Truncated = KeepsLimits r.limits r.given rest × IsOneLine rest
LineFault r rest cause = ⊥

-- when each answer is given, and what is left then
abbrev pub FirstAnswers : ReaderView → List ℕ → List ℕ → Result (List ℕ) ReadCertError → Type 0
FirstAnswers r rest more (Ok line) = IsLineNext r rest more line
FirstAnswers r rest more (Err (Bad fault)) = LineFault r rest fault.cause × (more ≡ rest)
FirstAnswers r rest more (Err (Work (TooLarge Certificate))) = PassesWhole r.limits r.given rest × (more ≡ rest)
FirstAnswers r rest more (Err error) = more ≡ rest

-- the causes that a line of any form has on its own
abbrev pub IsLineCause : CertCause → Type 0
IsLineCause causes.LineTooLong = Unit {0}
IsLineCause causes.Truncated = Unit {0}
IsLineCause cause = ⊥

-- a line that is given has no line feed, and a fault is of the next line
abbrev pub FirstCause : ReaderView → ReaderView → DeskView → DeskView
    → Result (List ℕ) ReadCertError → Type 0
FirstCause old new before after (Ok line) = IsOneLine line
FirstCause old new before after (Err (Bad fault)) = (fault.line ≡ old.lines + 1) × IsLineCause fault.cause
FirstCause old new before after (Err error) = WorkCause new before after error

-- the answer is right for some bytes
abbrev pub FirstOfSome : ReaderView → Result (List ℕ) ReadCertError → Type 0
FirstOfSome r (Ok line) = (more : List ℕ) → IsLineNext r (line ++ line_feed ∷ more) more line
FirstOfSome r (Err error) = (rest : List ℕ) × FirstAnswers r rest rest (Err error)

-- it gave the line, and else nothing
abbrev pub GivesFirst : ReaderView → ReaderView → Result (List ℕ) ReadCertError → Type 0
GivesFirst old new (Ok line) = new ≡ past_line old new.held line
GivesFirst old new (Err error) = new ≡ record old { held = new.held }
