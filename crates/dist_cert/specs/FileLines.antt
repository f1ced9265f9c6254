-- A file of lines that are judged one by one: its faults, line by line, the first of them, and when there is none. What
-- a first line says, and what is wrong with a later one, is given.
use Rattle.std.specs.Prelude.{◌≡◌, ◌≢◌, ◌⊎◌, ℕ, ◌+◌, ◌≤◌, List, [], ◌∷◌, ◌++◌, All, Contains, length, take}
use Rattle.std.specs.List.{flat_map}
use Rattle.dist_base.specs.Ascii.{line_feed}
use Rattle.dist_outside.specs.declared.limits.Limits.{Limits}
use Rattle.dist_cert.specs.declared.faults.CertCause.{CertCause}
use Rattle.dist_cert.specs.declared.faults.CertCause.TheVariants as causes
use Rattle.dist_cert.specs.declared.faults.CertFault.{CertFault}
use Rattle.dist_cert.specs.declared.records.CertRecord.{CertRecord}
use Rattle.dist_cert.specs.declared.records.CertRecord.TheVariants.{End}
use Rattle.dist_cert.specs.Form.{record_text, HasForm}

-- What the lines of a file are judged by: how a first line is written, when a line is one, and whether it fits; and
-- which fault a later line has behind others.
pub record Rules : Type 1 where
  pub Heading : Type 0
  pub heading_text : Heading → List ℕ
  pub HasHeadingForm : List ℕ → Heading → Type 0
  pub Fits : Heading → Type 0
  pub HasFault : Heading → List CertRecord → CertRecord → CertCause → Type 0

-- ---- lines of a text

-- no line feed stands in the bytes
abbrev pub IsOneLine : List ℕ → Type 0
IsOneLine bytes = All (λ byte. byte ≢ line_feed) bytes

-- the text begins with this line, ended by a line feed, and has `more` behind it
pub record BeginsWith (text line more : List ℕ) : Type 0 where
  pub ended : text ≡ line ++ line_feed ∷ more
  pub one_line : IsOneLine line

abbrev pub lines_text : List CertRecord → List ℕ
lines_text steps = flat_map (λ step. record_text step ++ line_feed ∷ []) steps

-- the text of a first line and of records, each ended by a line feed
abbrev pub file_text : List ℕ → List CertRecord → List ℕ
file_text first steps = first ++ line_feed ∷ lines_text steps

-- The text begins with the lines of this heading and these records, and has `rest` behind them.
pub record ReadsAs {H : Type 0} (heading_text : H → List ℕ) (HasHeadingForm : List ℕ → H → Type 0) (text : List ℕ)
    (h : H) (steps : List CertRecord) (rest : List ℕ) : Type 0 where
  pub text_is : text ≡ file_text (heading_text h) steps ++ rest
  pub header : HasHeadingForm (heading_text h) h
  pub records : All (λ step. HasForm (record_text step) step) steps

-- ---- faults of any line, told of the text from the line on

-- the bytes before the line feed, or before the end of the text, are as many as the limit or more
abbrev pub IsTooLong : Limits → List ℕ → Type 0
IsTooLong limits rest = (limits.record_line ≤ length rest) × IsOneLine (take limits.record_line rest)

-- ---- the first line

-- the first line has a line feed, and is no heading that fits
abbrev pub IsBadHeading : Rules → List ℕ → Type 0
IsBadHeading rules text = (line more : List ℕ) × BeginsWith text line more
    × ((h : rules.Heading) → rules.HasHeadingForm line h → ¬ rules.Fits h)

-- the first line of the text has a fault of this cause
abbrev pub HasHeadingFault : Rules → Limits → List ℕ → CertCause → Type 0
HasHeadingFault rules limits text causes.LineTooLong = IsTooLong limits text
HasHeadingFault rules limits text causes.Truncated = IsOneLine text
HasHeadingFault rules limits text causes.BadHeader = IsBadHeading rules text
HasHeadingFault rules limits text cause = ⊥

-- ---- later lines

-- the text ends within the line, or before it where none of the records before it is the end
abbrev pub IsCut : List CertRecord → List ℕ → Type 0
IsCut before rest = IsOneLine rest × ((rest ≢ []) ⊎ (¬ Contains before End))

-- the line has a line feed, and stands behind the end or has no form
abbrev pub IsBadRecord : List CertRecord → List ℕ → Type 0
IsBadRecord before rest = (line more : List ℕ) × BeginsWith rest line more
    × (Contains before End ⊎ ((step : CertRecord) → ¬ HasForm line step))

-- the line has the form of a record with a fault of this cause
abbrev pub IsFaulty : (List CertRecord → CertRecord → CertCause → Type 0) → List CertRecord → List ℕ → CertCause
    → Type 0
IsFaulty HasFault before rest cause = (line more : List ℕ) × (step : CertRecord) × BeginsWith rest line more
    × HasForm line step × HasFault before step cause

-- The line with which `rest` begins has a fault of this cause, where it stands behind a first line and the records
-- `before`.
abbrev pub HasFaultBehind : (List CertRecord → CertRecord → CertCause → Type 0) → Limits → List CertRecord → List ℕ
    → CertCause → Type 0
HasFaultBehind HasFault limits before rest causes.LineTooLong = IsTooLong limits rest
HasFaultBehind HasFault limits before rest causes.Truncated = IsCut before rest
HasFaultBehind HasFault limits before rest causes.BadRecord = IsBadRecord before rest
HasFaultBehind HasFault limits before rest cause = IsFaulty HasFault before rest cause

-- ---- the first fault

-- in a line the earlier cause of this list decides
abbrev pub in_order : List CertCause
in_order = causes.LineTooLong ∷ causes.Truncated ∷ causes.BadHeader ∷ causes.BadRecord ∷ causes.OutOfRange
    ∷ causes.OutOfOrder
    ∷ causes.UnknownLine ∷ causes.BadLine ∷ causes.NotAFuture ∷ causes.NotAnInstallation ∷ causes.LimitNotReached
    ∷ causes.NotNew
    ∷ causes.WrongClaim ∷ causes.Incomplete ∷ []

-- the first cause of the list for which there is a fault
abbrev pub IsFirstOf : List CertCause → (CertCause → Type 0) → CertCause → Type 0
IsFirstOf [] Has cause = ⊥
IsFirstOf (next ∷ later) Has cause = (Has next × (cause ≡ next)) ⊎ ((¬ Has next) × IsFirstOf later Has cause)

-- The lines of the heading and the records `before`, behind which `rest` stands, have no fault.
pub record AreRight (rules : Rules) (limits : Limits) (text : List ℕ) (h : rules.Heading) (before : List CertRecord)
    (rest : List ℕ) : Type 0 where
  pub reads : ReadsAs rules.heading_text rules.HasHeadingForm text h before rest
  pub first : (cause : CertCause) → ¬ HasHeadingFault rules limits text cause
  pub later : (earlier : List CertRecord) (step : CertRecord) (others : List CertRecord)
      → before ≡ earlier ++ step ∷ others
      → (cause : CertCause) → ¬ HasFaultBehind (rules.HasFault h) limits earlier
      (lines_text (step ∷ others) ++ rest) cause

-- the first line is the faulty one
pub record IsRefusedFirst (rules : Rules) (limits : Limits) (text : List ℕ) (fault : CertFault) : Type 0 where
  pub line : fault.line ≡ 1
  pub cause : IsFirstOf in_order (HasHeadingFault rules limits text) fault.cause

-- the line behind a faultless heading and faultless records is the faulty one
pub record IsRefusedLater (rules : Rules) (limits : Limits) (text : List ℕ) (h : rules.Heading)
    (before : List CertRecord) (rest : List ℕ) (fault : CertFault) : Type 0 where
  pub faultless : AreRight rules limits text h before rest
  pub line : fault.line ≡ length before + 2
  pub cause : IsFirstOf in_order (HasFaultBehind (rules.HasFault h) limits before rest) fault.cause

-- The refusal of a text: its first faulty line, numbered from 1, and the first cause of that line in the order.
abbrev pub IsRefusedWith : Rules → Limits → List ℕ → CertFault → Type 0
IsRefusedWith rules limits text fault = IsRefusedFirst rules limits text fault
    ⊎ ((h : rules.Heading) × (before : List CertRecord) × (rest : List ℕ)
    × IsRefusedLater rules limits text h before rest fault)

-- ---- acceptance

-- The text is the lines of this heading and these records. No line has a fault, and none is missing behind the last.
pub record IsWhole (rules : Rules) (limits : Limits) (text : List ℕ) (h : rules.Heading) (steps : List CertRecord)
    : Type 0 where
  pub faultless : AreRight rules limits text h steps []
  pub ends : (cause : CertCause) → ¬ HasFaultBehind (rules.HasFault h) limits steps [] cause
