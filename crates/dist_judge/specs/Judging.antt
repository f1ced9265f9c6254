-- What is answered of a text that is judged line by line, and when.
use Rattle.std.specs.Prelude.{◌≡◌, ◌⊎◌, ℕ, ◌+◌, ◌<◌, ◌≤◌, List, Option, Some, None, length}
use Rattle.dist_outside.specs.declared.limits.Limits.{Limits}
use Rattle.dist_outside.specs.declared.trouble.What.{What}
use Rattle.dist_outside.specs.declared.trouble.What.TheVariants.{Variables, Clauses, Literals, Lines, LineLiterals}
use Rattle.dist_outside.specs.declared.trouble.What.TheVariants.{Certificate}
use Rattle.dist_outside.specs.declared.trouble.WorkError.TheVariants.{ReadFault, TooLarge, NoMemory}
use Rattle.dist_clause.specs.ClauseList.{literal_count}
use Rattle.dist_clause.specs.Formula.{Literal}
use Rattle.dist_cert.specs.declared.faults.CertCause.{CertCause}
use Rattle.dist_cert.specs.declared.faults.CertCause.TheVariants.{BadHeader}
use Rattle.dist_cert.specs.declared.faults.CertFault.{CertFault}
use Rattle.dist_cert.specs.declared.faults.ReadCertError.{ReadCertError}
use Rattle.dist_cert.specs.declared.faults.ReadCertError.TheVariants.{Bad, Work}
use Rattle.dist_cert.specs.declared.records.CertRecord.{CertRecord}
use Rattle.dist_cert.specs.declared.records.CertRecord.TheVariants.{Derived}
use Rattle.dist_cert.specs.FileLines.{BeginsWith, IsTooLong, file_text, HasHeadingFault, HasFaultBehind, in_order}
use Rattle.dist_cert.specs.FileLines.{IsFirstOf, AreRight, IsWhole, IsRefusedWith}
use Rattle.dist_cert.specs.Form.{Word, HasForm}
use Rattle.dist_cert.specs.Groups.{clause_of, derived}
use Rattle.dist_cert.specs.Reading.{PassesWhole, KeepsLimits}
use Rattle.dist_judge.specs.FileKind.{FileKind, rules_of}

-- ---- how far a text is read

-- The numbers are kept: of what is judged by, of derived lines and the literals in them, and of bytes.
pub record KeepsNumbers (kind : FileKind) (limits : Limits) (basis : kind.Basis) (h : kind.Heading)
    (lines : List CertRecord) : Type 0 where
  pub inputs : kind.IsWithin limits basis
  pub derived_lines : length (derived lines) ≤ limits.lines
  pub line_literals : literal_count (derived lines) ≤ limits.line_literals
  pub bytes : length (file_text (kind.heading_text h) lines) ≤ limits.certificate

-- The text begins with the lines of this heading and these records, which have no fault and keep the numbers.
pub record IsReached (kind : FileKind) (basis : kind.Basis) (limits : Limits) (text : List ℕ) (h : kind.Heading)
    (before : List CertRecord) (rest : List ℕ) : Type 0 where
  pub is_basis : kind.IsBasisOf h basis
  pub faultless : AreRight (rules_of kind basis) limits text h before rest
  pub numbers : KeepsNumbers kind limits basis h before

-- The text is the lines of a heading and of records, without a fault, keeps the numbers, and this is told of them.
pub record IsCompleted (kind : FileKind) (limits : Limits) (text : List ℕ) (h : kind.Heading)
    (Tells : kind.Basis → List CertRecord → Type 0) : Type 0 where
  pub basis : kind.Basis
  pub is_basis : kind.IsBasisOf h basis
  pub steps : List CertRecord
  pub accepted : IsWhole (rules_of kind basis) limits text h steps
  pub claims : Tells basis steps
  pub numbers : KeepsNumbers kind limits basis h steps

-- ---- where it stops

-- A text with a first line that is not too long and has the form is judged by the basis of that heading; any other text
-- by whatever.
abbrev pub IsJudgedBy : (kind : FileKind) → Limits → List ℕ → kind.Basis → Type 0
IsJudgedBy kind limits text basis = (h : kind.Heading) (line more : List ℕ) → BeginsWith text line more
    → kind.HasHeadingForm line h → (¬ IsTooLong limits text) → kind.IsBasisOf h basis

-- where the text begins with a first line of the form, what it is judged by keeps the numbers
abbrev pub HasInputsWithin : (kind : FileKind) → kind.Basis → Limits → List ℕ → Type 0
HasInputsWithin kind basis limits text = (h : kind.Heading) (line more : List ℕ) → BeginsWith text line more
    → kind.HasHeadingForm line h → kind.IsWithin limits basis

-- The first line has this first fault, and does not pass the number of bytes before. Where it is bad, what it is judged
-- by does not pass a number before.
pub record StopsFirst (kind : FileKind) (limits : Limits) (text : List ℕ) (cause : CertCause) : Type 0 where
  pub basis : kind.Basis
  pub judged : IsJudgedBy kind limits text basis
  pub bytes : ¬ PassesWhole limits 0 text
  pub first : IsFirstOf in_order (HasHeadingFault (rules_of kind basis) limits text) cause
  pub within : cause ≡ BadHeader → HasInputsWithin kind basis limits text

-- The line behind some lines that are reached has this first fault, and does not pass the number of bytes before.
pub record StopsLater (kind : FileKind) (limits : Limits) (text : List ℕ) (fault : CertFault) : Type 0 where
  pub basis : kind.Basis
  pub h : kind.Heading
  pub before : List CertRecord
  pub rest : List ℕ
  pub reached : IsReached kind basis limits text h before rest
  pub bytes : ¬ PassesWhole limits (length (file_text (kind.heading_text h) before)) rest
  pub line : fault.line ≡ length before + 2
  pub first : IsFirstOf in_order (HasFaultBehind (kind.HasFault basis h) limits before rest) fault.cause

-- The text has a first line of the form, and what it is judged by passes this number first.
pub record HasLargeInputs (kind : FileKind) (limits : Limits) (text : List ℕ) (what : What) : Type 0 where
  pub keeps : KeepsLimits limits 0 text
  pub h : kind.Heading
  pub line : List ℕ
  pub more : List ℕ
  pub begins : BeginsWith text line more
  pub form : kind.HasHeadingForm line h
  pub passes : kind.PassesFirst h limits what

-- A derived line without a fault stands behind some lines that are reached, and with it they pass a number.
pub record StopsAtDerived (kind : FileKind) (limits : Limits) (text : List ℕ)
    (Passes : List (List Literal) → List Literal → Type 0) : Type 0 where
  pub basis : kind.Basis
  pub h : kind.Heading
  pub before : List CertRecord
  pub rest : List ℕ
  pub reached : IsReached kind basis limits text h before rest
  pub keeps : KeepsLimits limits (length (file_text (kind.heading_text h) before)) rest
  pub literals : List Word
  pub hints : List ℕ
  pub line : List ℕ
  pub more : List ℕ
  pub begins : BeginsWith rest line more
  pub form : HasForm line (Derived literals hints)
  pub none : (cause : CertCause) → ¬ HasFaultBehind (kind.HasFault basis h) limits before rest cause
  pub passes : Passes (derived before) (clause_of literals)

-- The byte that passes the number of bytes is one of the line behind some lines that are reached.
pub record StopsAtByte (kind : FileKind) (limits : Limits) (text : List ℕ) : Type 0 where
  pub basis : kind.Basis
  pub h : kind.Heading
  pub before : List CertRecord
  pub rest : List ℕ
  pub reached : IsReached kind basis limits text h before rest
  pub passes : PassesWhole limits (length (file_text (kind.heading_text h) before)) rest

-- one line more than the number of derived lines; one line within it, and more literals than theirs
abbrev pub FillsLines : Limits → List (List Literal) → List Literal → Type 0
FillsLines limits lines clause = length lines ≡ limits.lines

abbrev pub FillsLiterals : Limits → List (List Literal) → List Literal → Type 0
FillsLiterals limits lines clause = (length lines < limits.lines)
    × (limits.line_literals < literal_count lines + length clause)

-- When each error is given. A fault of the desk and want of memory may come in place of any answer.
abbrev pub StopsWith : FileKind → Limits → List ℕ → ReadCertError → Type 0
StopsWith kind limits text (Bad fault) = ((fault.line ≡ 1) × StopsFirst kind limits text fault.cause)
    ⊎ StopsLater kind limits text fault
StopsWith kind limits text (Work (TooLarge Variables)) = HasLargeInputs kind limits text Variables
StopsWith kind limits text (Work (TooLarge Clauses)) = HasLargeInputs kind limits text Clauses
StopsWith kind limits text (Work (TooLarge Literals)) = HasLargeInputs kind limits text Literals
StopsWith kind limits text (Work (TooLarge Lines)) = StopsAtDerived kind limits text (FillsLines limits)
StopsWith kind limits text (Work (TooLarge LineLiterals)) = StopsAtDerived kind limits text (FillsLiterals limits)
StopsWith kind limits text (Work (TooLarge Certificate)) = PassesWhole limits 0 text
    ⊎ StopsAtByte kind limits text
StopsWith kind limits text (Work ReadFault) = Unit {0}
StopsWith kind limits text (Work NoMemory) = Unit {0}
StopsWith kind limits text (Work error) = ⊥

-- what holds of a text, where it is told
abbrev pub OfText : Option (List ℕ) → (List ℕ → Type 0) → Type 0
OfText None P = Unit {0}
OfText (Some text) P = P text

-- ---- verdicts

-- the text is refused with this fault, by what it is judged by
abbrev pub IsRefused : FileKind → Limits → List ℕ → CertFault → Type 0
IsRefused kind limits text fault = (basis : kind.Basis) × IsJudgedBy kind limits text basis
    × IsRefusedWith (rules_of kind basis) limits text fault

-- it is the lines of this heading and these records, without a fault by the basis of the heading
abbrev pub IsAccepted : (kind : FileKind) → Limits → List ℕ → kind.Heading → List CertRecord → Type 0
IsAccepted kind limits text h steps = (basis : kind.Basis) × kind.IsBasisOf h basis
    × IsWhole (rules_of kind basis) limits text h steps
