-- What holds at each line of a file that is checked, and what is answered of its text.
use Rattle.std.specs.Prelude.{ℕ, List, Option, None, Result, Ok, Err}
use Rattle.dist_outside.specs.declared.limits.Limits.{Limits}
use Rattle.dist_cert.specs.declared.faults.ReadCertError.{ReadCertError}
use Rattle.dist_cert.specs.declared.records.CertRecord.{CertRecord}
use Rattle.dist_cert.specs.Reading.{ReaderView}
use Rattle.dist_judge.specs.Judging.{IsCompleted, OfText, StopsWith}
use Rattle.dist_judge.specs.ReadingLaws.{IsRead}
use Rattle.dist_line_check.specs.Checker.{CheckerView}
use Rattle.dist_line_check.specs.Kinds.{IsReached, LineKind}

-- What is kept is what the lines that were read hold, the reader stands behind them, and they are those of the text.
pub record IsChecked {N : Type 0} (kind : LineKind N) (limits : Limits) (told : Option (List ℕ)) (h : kind.file.Heading)
    (reader : ReaderView) (left : Option (List ℕ)) (c : CheckerView) (notes : N) : Type 0 where
  pub basis : kind.file.Basis
  pub before : List CertRecord
  pub read : IsRead kind.file limits told basis h before reader left
  pub reached : IsReached kind limits basis h before c notes

-- When each answer is given: the text is accepted, and these are the notes of its lines; or why not. A fault of the
-- desk and want of memory may come in place of any.
abbrev pub TextAnswers : {N X : Type 0} → (kind : LineKind N) → Limits → kind.file.Heading → (X → N) → List ℕ
    → Result X ReadCertError → Type 0
TextAnswers kind limits h notes text (Ok done) =
    IsCompleted kind.file limits text h (λ basis steps. kind.Noted basis h steps (notes done))
TextAnswers kind limits h notes text (Err error) = StopsWith kind.file limits text error

-- what is kept is so behind some first line
abbrev pub IsBegun : {N : Type 0} → LineKind N → ReaderView → CheckerView → N → Type 0
IsBegun kind reader c notes = (limits : Limits) × (h : kind.file.Heading)
    × IsChecked kind limits None h reader None c notes

-- what is answered of a text that is told, and of some text, whatever is told
abbrev pub AnswersTold : {N X : Type 0} → LineKind N → ReaderView → (left : Option (List ℕ)) → CheckerView → N → (X → N)
    → Result X ReadCertError → Type 0
AnswersTold kind reader left c notes made result = (limits : Limits) (told : Option (List ℕ)) (h : kind.file.Heading)
    → IsChecked kind limits told h reader left c notes
    → OfText told (λ text. TextAnswers kind limits h made text result)

abbrev pub AnswersSome : {N X : Type 0} → LineKind N → ReaderView → CheckerView → N → (X → N) → Result X ReadCertError
    → Type 0
AnswersSome kind reader c notes made result = (limits : Limits) (h : kind.file.Heading)
    → IsChecked kind limits None h reader None c notes
    → (text : List ℕ) × TextAnswers kind limits h made text result
