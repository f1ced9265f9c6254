-- Serves private contracts: how the bytes of a line come, piece by piece.
use Rattle.std.specs.Prelude.{◌≡◌, ◌≢◌, ◌⊎◌, IsTrue, ℕ, ◌+◌, ◌^◌, ◌<◌, ◌≤◌, Bool, false, List, [], ◌∷◌, ◌++◌, length}
use Rattle.std.specs.Prelude.{Option, Some, None, Result, Ok, Err}
use Rattle.dist_base.specs.Ascii.{line_feed}
use Rattle.dist_outside.specs.Counts.{Rose}
use Rattle.dist_outside.specs.DeskView.{DeskView}
use Rattle.dist_outside.specs.Reading.{bytes_left}
use Rattle.dist_outside.specs.declared.limits.Limits.{Limits}
use Rattle.dist_outside.specs.declared.trouble.What.TheVariants.{Certificate}
use Rattle.dist_outside.specs.declared.trouble.WorkError.{WorkError}
use Rattle.dist_outside.specs.declared.trouble.WorkError.TheVariants.{ReadFault, TooLarge, NoMemory}
use Rattle.dist_cert.specs.declared.faults.CertCause.TheVariants as causes
use Rattle.dist_cert.specs.declared.faults.ReadCertError.{ReadCertError}
use Rattle.dist_cert.specs.declared.faults.ReadCertError.TheVariants.{Bad}
use Rattle.dist_cert.specs.declared.lines.Reached.{Reached}
use Rattle.dist_cert.specs.declared.lines.Reached.TheVariants.{Feed, File, Within}
use Rattle.dist_cert.specs.declared.records.CertRecord.{CertRecord}
use Rattle.dist_cert.specs.FileLines.{IsOneLine, IsTooLong}
use Rattle.dist_cert.specs.Reading.{in_front, PassesWhole, KeepsLimits}
use Rattle.dist_cert.specs.Held.{Held}

-- the bytes that are left to read, where the desk tells them
abbrev pub unread : DeskView → Option (List ℕ)
unread desk = bytes_left desk.files desk.mode

-- the bytes that are held, and those that are left to read behind them
abbrev pub held_text : Held → List ℕ
held_text held = held.line ++ held.behind

abbrev pub text_held : Held → DeskView → Option (List ℕ)
text_held held desk = in_front (held_text held) (unread desk)

-- a piece came of what was left, and nothing only at its end
pub record Filled (result : Result Bool WorkError) (piece left more : List ℕ) : Type 0 where
  pub came : left ≡ piece ++ more
  pub end : result ≡ Ok false → left ≡ []

-- where the line was read to, when a piece of it was taken: its line feed is next; nothing is left; it goes on
abbrev pub IsReached : Held → Held → Result Reached WorkError → Type 0
IsReached old new (Ok Feed) = (more : List ℕ) × (new.behind ≡ line_feed ∷ more)
IsReached old new (Ok File) = new ≡ old
IsReached old new (Ok Within) = (new.behind ≡ []) × (length old.line < length new.line)
IsReached old new (Err error) = Unit {0}

-- no byte was lost, and the line is the whole text at the file's end
pub record KeepsText (result : Result Reached WorkError) (new : Held) (rest more : List ℕ) : Type 0 where
  pub same : more ≡ rest
  pub whole : result ≡ Ok File → rest ≡ new.line

-- where the reading of a line ended, within the limits or past one of them: it is too long where it goes on
abbrev pub EndsAt : Limits → ℕ → Held → List ℕ → Result Reached WorkError → Type 0
EndsAt limits given new rest (Ok Feed) = KeepsLimits limits given rest
EndsAt limits given new rest (Ok File) = KeepsLimits limits given rest × (rest ≡ new.line)
EndsAt limits given new rest (Ok Within) = (¬ PassesWhole limits given rest) × IsTooLong limits rest
EndsAt limits given new rest (Err (TooLarge Certificate)) = PassesWhole limits given rest
EndsAt limits given new rest (Err error) = Unit {0}

-- The same of some bytes: of the line with its line feed and any bytes behind it, of the line alone where the file ends
-- behind it, or of some bytes at which the reading stops.
abbrev pub EndsAtSome : Limits → ℕ → Held → Result Reached WorkError → Type 0
EndsAtSome limits given new (Ok Feed) = (more : List ℕ) → KeepsLimits limits given (new.line ++ line_feed ∷ more)
EndsAtSome limits given new (Ok File) = KeepsLimits limits given new.line
EndsAtSome limits given new (Ok Within) = (rest : List ℕ) × (¬ PassesWhole limits given rest) × IsTooLong limits rest
EndsAtSome limits given new (Err (TooLarge Certificate)) = (rest : List ℕ) × PassesWhole limits given rest
EndsAtSome limits given new (Err error) = Unit {0}

abbrev pub EndsOrSome : Limits → ℕ → Held → Result (Option Reached) WorkError → Type 0
EndsOrSome limits given new (Ok None) = Unit {0}
EndsOrSome limits given new (Ok (Some reached)) = EndsAtSome limits given new (Ok reached)
EndsOrSome limits given new (Err error) = EndsAtSome limits given new (Err error)

-- the same, where it may go on within the limits
abbrev pub EndsOr : Limits → ℕ → Held → List ℕ → Result (Option Reached) WorkError → Type 0
EndsOr limits given new rest (Ok None) = Unit {0}
EndsOr limits given new rest (Ok (Some reached)) = EndsAt limits given new rest (Ok reached)
EndsOr limits given new rest (Err error) = EndsAt limits given new rest (Err error)

-- how many bytes of a line came, its line feed with them
abbrev pub came : Reached → ℕ → ℕ
came Feed length = length + 1
came reached length = length

-- whether the reading of a line ends, where the whole may have so many bytes more
abbrev pub IsJudged : Limits → ℕ → ℕ → Reached → Result (Option Reached) WorkError → Type 0
IsJudged limits room length reached (Ok None) = (reached ≡ Within) × (length < limits.record_line)
IsJudged limits room length reached (Ok (Some Within)) = (limits.record_line ≤ length)
    × (room < limits.record_line → came reached length ≤ room)
IsJudged limits room length reached (Ok (Some end)) = (reached ≡ end) × (length < limits.record_line)
    × (room < limits.record_line → came reached length ≤ room)
IsJudged limits room length reached (Err (TooLarge Certificate)) = (room < came reached length)
    × (room < limits.record_line)
IsJudged limits room length reached (Err error) = ⊥

-- no byte was lost, and that is where the reading ended
abbrev pub Ends : (List ℕ → Type 0) → List ℕ → List ℕ → Type 0
Ends At rest more = (more ≡ rest) × At rest

-- what is known of the line where it ended, whatever the desk tells. Where its line feed is next, it keeps both limits.
pub record HasFeed (limits : Limits) (given : ℕ) (new : Held) : Type 0 where
  pub more : List ℕ
  pub next : new.behind ≡ line_feed ∷ more
  pub one_line : IsOneLine new.line
  pub within : given + length new.line < limits.certificate
  pub fits : limits.certificate < 2 ^ 64

abbrev pub HasEnd : Limits → ℕ → Held → Reached → Type 0
HasEnd limits given new Feed = HasFeed limits given new
HasEnd limits given new File = IsOneLine new.line
HasEnd limits given new Within = Unit {0}

-- a piece more, where the line goes on within the limits
abbrev pub HasEndOr : Limits → ℕ → Held → Held → Option Reached → Type 0
HasEndOr limits given old new None = (length old.line < length new.line) × (length new.line < limits.record_line)
HasEndOr limits given old new (Some reached) = HasEnd limits given new reached

-- why the reading of a line was given up. Want of memory is free.
abbrev pub LineCause : Limits → ℕ → Held → DeskView → DeskView → WorkError → Type 0
LineCause limits given new before after ReadFault = Rose before.read_faults after.read_faults
LineCause limits given new before after (TooLarge Certificate) = limits.certificate < given + length (held_text new)
LineCause limits given new before after NoMemory = Unit {0}
LineCause limits given new before after error = ⊥

-- what the end of a file is, behind the end or not, and behind a front of a line: none is missing, or the line is cut
abbrev pub AtFileEnd : Bool → ℕ → List ℕ → Result (Option CertRecord) ReadCertError → Type 0
AtFileEnd ended lines line (Ok None) = IsTrue ended × (line ≡ [])
AtFileEnd ended lines line (Ok (Some step)) = ⊥
AtFileEnd ended lines line (Err error) = (error ≡ Bad (record { line = lines + 1; cause = causes.Truncated }))
    × ((line ≢ []) ⊎ (ended ≡ false))
