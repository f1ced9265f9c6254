-- Kinds of file whose lines are checked: what is noted of the lines, and what is asked of it.
use Rattle.std.specs.Prelude.{◌≡◌, ◌↔◌, ℕ, ◌+◌, ◌<◌, ◌^◌, Bool, true, false, List, [], ◌∷◌, ◌++◌, Option, Some}
use Rattle.std.specs.Prelude.{None, length}
use Rattle.dist_outside.specs.declared.limits.Limits.{Limits}
use Rattle.dist_derive.specs.ClauseLog.{IsWithinLineLimits}
use Rattle.dist_cert.specs.declared.faults.CertCause.{CertCause}
use Rattle.dist_cert.specs.declared.faults.ReadCertError.{ReadCertError}
use Rattle.dist_cert.specs.declared.records.CertKind.TheVariants.{Strong}
use Rattle.dist_cert.specs.declared.records.CertRecord.{CertRecord}
use Rattle.dist_cert.specs.declared.records.CertRecord.TheVariants as lines
use Rattle.dist_cert.specs.declared.records.Header.{Header}
use Rattle.dist_cert.specs.FileLines.{IsFirstOf, in_order}
use Rattle.dist_cert.specs.Form.{Word}
use Rattle.dist_cert.specs.Groups.{IsOpen}
use Rattle.dist_cert.specs.LineRules.{HasRecordFault}
use Rattle.dist_cert.specs.Subject.{Matter}
use Rattle.dist_judge.specs.ClearKindLaws.{IsClear}
use Rattle.dist_judge.specs.FileKind.{FileKind}
use Rattle.dist_judge.specs.LineLaws.{AreFaultless, HaveForms, IsFaultless}
use Rattle.dist_judge.specs.ReadingLaws as reading
use Rattle.dist_line_check.specs.Checker.{CheckerView}
use Rattle.dist_line_check.specs.LinesAt.{AreFuturesBy, IsLogOf, IsQuestionOf, JudgesMembers}

-- The files; the clauses by which a basis judges questions, derived lines and installations, with the limit and the
-- kind of a heading; and what is noted of lines.
pub record LineKind (N : Type 0) : Type 1 where
  pub file : FileKind
  pub matter : file.Basis → Matter
  pub header : file.Heading → Header
  pub Noted : file.Basis → file.Heading → List CertRecord → N → Type 0

-- A line that is judged alike in each kind of file: it is no claim, and not the end.
abbrev pub is_common : CertRecord → Bool
is_common (lines.Question literals) = true
is_common (lines.Derived literals hints) = true
is_common (lines.Refuted hints) = true
is_common (lines.Installation variables) = true
is_common lines.Undecided = true
is_common step = false

-- a line that finds nothing
abbrev pub finds_nothing : CertRecord → Bool
finds_nothing (lines.Question literals) = true
finds_nothing (lines.Derived literals hints) = true
finds_nothing step = false

-- Lines can be told apart, common ones have the faults of lines of a certificate, and what is noted stays at a line
-- that finds nothing.
pub record IsLineKind {N : Type 0} (kind : LineKind N) : Type 0 where
  pub clear : IsClear kind.file
  pub common : (basis : kind.file.Basis) (h : kind.file.Heading) (before : List CertRecord) (step : CertRecord)
      (cause : CertCause) → is_common step ≡ true
      → kind.file.HasFault basis h before step cause
      ↔ HasRecordFault (kind.matter basis) (kind.header h) before step cause
  pub stays : (basis : kind.file.Basis) (h : kind.file.Heading) (before : List CertRecord) (step : CertRecord)
      (notes : N) → finds_nothing step ≡ true → kind.Noted basis h before notes
      → kind.Noted basis h (before ++ step ∷ []) notes

-- the first fault, or none
abbrev pub FirstFault : (CertCause → Type 0) → Option CertCause → Type 0
FirstFault Has None = (cause : CertCause) → ¬ Has cause
FirstFault Has (Some cause) = IsFirstOf in_order Has cause

-- ---- what a kind tells and notes, whatever the lines before

-- of a claim or of the end, behind lines without a fault
abbrev pub TellsOwn : {N : Type 0} → LineKind N → N → CertRecord → Option CertCause → Type 0
TellsOwn kind notes step found = (basis : kind.file.Basis) (h : kind.file.Heading) (before : List CertRecord)
    → AreFaultless kind.file basis h before → HaveForms before → kind.Noted basis h before notes
    → FirstFault (kind.file.HasFault basis h before step) found

abbrev pub NotesRefuted : {N : Type 0} → LineKind N → List Word → N → N → Type 0
NotesRefuted kind question old new = (basis : kind.file.Basis) (h : kind.file.Heading)
    (before earlier since : List CertRecord) (hints : List ℕ) → IsOpen before earlier question since
    → kind.Noted basis h before old → kind.Noted basis h (before ++ lines.Refuted hints ∷ []) new

abbrev pub NotesUndecided : {N : Type 0} → LineKind N → List Word → N → N → Type 0
NotesUndecided kind question old new = (basis : kind.file.Basis) (h : kind.file.Heading)
    (before earlier since : List CertRecord) → IsOpen before earlier question since
    → kind.Noted basis h before old → kind.Noted basis h (before ++ lines.Undecided ∷ []) new

abbrev pub NotesInstalled : {N : Type 0} → LineKind N → List ℕ → N → N → Type 0
NotesInstalled kind variables old new = (basis : kind.file.Basis) (h : kind.file.Heading) (before : List CertRecord)
    → kind.Noted basis h before old → kind.Noted basis h (before ++ lines.Installation variables ∷ []) new

abbrev pub NotesClaim : {N : Type 0} → LineKind N → CertRecord → N → N → Type 0
NotesClaim kind step old new = (basis : kind.file.Basis) (h : kind.file.Heading) (before : List CertRecord)
    → IsFaultless kind.file basis h before step → kind.Noted basis h before old
    → kind.Noted basis h (before ++ step ∷ []) new

-- these are the notes of some lines, which can be counted
abbrev pub IsNoted : {N : Type 0} → LineKind N → N → Type 0
IsNoted kind notes = (basis : kind.file.Basis) × (h : kind.file.Heading) × (before : List CertRecord)
    × kind.Noted basis h before notes × (length before + 1 < 2 ^ 64)

-- these are the notes of some lines, behind which the line has no fault
abbrev pub IsDue : {N : Type 0} → LineKind N → N → CertRecord → Type 0
IsDue kind notes step = (basis : kind.file.Basis) × (h : kind.file.Heading) × (before : List CertRecord)
    × kind.Noted basis h before notes × IsFaultless kind.file basis h before step

-- ---- what is kept of the lines before a line

-- The clauses and the open question of these lines, by which the clauses judge.
pub record IsKept (matter : Matter) (h : Header) (before : List CertRecord) (c : CheckerView) : Type 0 where
  pub limit_is : c.limit ≡ h.limit
  pub log_of : IsLogOf matter before c.log
  pub question_of : IsQuestionOf matter.inputs before c.question
  pub future_is : AreFuturesBy matter c.future
  pub judges : JudgesMembers matter
  pub today : h.kind ≡ Strong → (members : List ℕ) → matter.IsFuture members

-- What is kept is what these lines hold, within these limits, and the notes are those of the lines.
pub record IsReached {N : Type 0} (kind : LineKind N) (limits : Limits) (basis : kind.file.Basis)
    (h : kind.file.Heading) (before : List CertRecord) (c : CheckerView) (notes : N) : Type 0 where
  pub kept : IsKept (kind.matter basis) (kind.header h) before c
  pub line_limit : c.log.line_limit ≡ limits.lines
  pub line_literal_limit : c.log.line_literal_limit ≡ limits.line_literals
  pub within : IsWithinLineLimits c.log
  pub noted : kind.Noted basis h before notes

-- Besides, the lines have no fault.
pub record IsBehind {N : Type 0} (kind : LineKind N) (limits : Limits) (basis : kind.file.Basis)
    (h : kind.file.Heading) (before : List CertRecord) (c : CheckerView) (notes : N) : Type 0 where
  pub faultless : AreFaultless kind.file basis h before
  pub forms : HaveForms before
  pub reached : IsReached kind limits basis h before c notes

-- ---- one line

abbrev pub TellsLine : {N : Type 0} → LineKind N → CheckerView → N → CertRecord → Option CertCause → Type 0
TellsLine kind c notes step found = (limits : Limits) (basis : kind.file.Basis) (h : kind.file.Heading)
    (before : List CertRecord) → IsBehind kind limits basis h before c notes
    → FirstFault (kind.file.HasFault basis h before step) found

-- these are what some lines leave, which can be counted
abbrev pub IsSomewhere : {N : Type 0} → LineKind N → CheckerView → N → Type 0
IsSomewhere kind c notes = (limits : Limits) × (basis : kind.file.Basis) × (h : kind.file.Heading)
    × (before : List CertRecord) × IsBehind kind limits basis h before c notes × (length before + 1 < 2 ^ 64)

-- and behind them the line has no fault
abbrev pub IsNext : {N : Type 0} → LineKind N → CheckerView → N → CertRecord → Type 0
IsNext kind c notes step = (limits : Limits) × (basis : kind.file.Basis) × (h : kind.file.Heading)
    × (before : List CertRecord) × IsBehind kind limits basis h before c notes × (length before + 1 < 2 ^ 64)
    × IsFaultless kind.file basis h before step

-- the line is noted
abbrev pub NotesLine : {N : Type 0} → LineKind N → CheckerView → CertRecord → N → N → Type 0
NotesLine kind c step old new = (basis : kind.file.Basis) (h : kind.file.Heading) (before : List CertRecord)
    → IsQuestionOf (kind.matter basis).inputs before c.question → IsFaultless kind.file basis h before step
    → kind.Noted basis h before old → kind.Noted basis h (before ++ step ∷ []) new

-- the line has no fault, and was taken
abbrev pub TakesLine : {N : Type 0} → LineKind N → CheckerView → N → CertRecord → CheckerView → N → Type 0
TakesLine kind c notes step d more = (limits : Limits) (basis : kind.file.Basis) (h : kind.file.Heading)
    (before : List CertRecord) → IsBehind kind limits basis h before c notes
    → IsFaultless kind.file basis h before step × IsReached kind limits basis h (before ++ step ∷ []) d more

-- why it was not taken
abbrev pub LineStops : {N : Type 0} → LineKind N → CheckerView → N → CertRecord → ℕ → ReadCertError → Type 0
LineStops kind c notes step line error = (limits : Limits) (basis : kind.file.Basis) (h : kind.file.Heading)
    (before : List CertRecord) → IsBehind kind limits basis h before c notes
    → reading.LineStops kind.file limits basis h before step line error
