-- The faults of the lines of a stanza (Debian Policy 5.1), and the first of them.
use Rattle.std.specs.Prelude.{◌≡◌, ℕ, ◌+◌, ◌<◌, List, [], if◌then◌else◌, not, ◌==◌, Option, Some, None, length, take}
use Rattle.std.specs.Prelude.{slice_index_or}
use Rattle.std.specs.List.{list_any}
use Rattle.dist_base.specs.Ascii.{is_colon}
use Rattle.dist_control.specs.declared.error.ControlError.{ControlError}
use Rattle.dist_control.specs.declared.error.ControlError.TheVariants.{NoColon, BadFieldName, OrphanContinuation}
use Rattle.dist_control.specs.declared.error.ControlError.TheVariants.{DoubleField}
use Rattle.dist_control.specs.Bytes.{is_continuation, is_field_name}
use Rattle.dist_control.specs.Fields.{name_of, is_same_name, field_names}
use Rattle.dist_control.specs.RawStanza.{RawStanza}

-- The first fault of a line of this number, by the lines before it in its stanza: a continuation line with
-- none before it; a field line without a colon; one whose name is no field name; one whose name an earlier
-- field has, ASCII case apart.
abbrev pub line_fault : (number : ℕ) (before : List (List ℕ)) (line : List ℕ) → Option ControlError
line_fault number before line =
    if is_continuation line
    then (if length before == 0 then Some (OrphanContinuation number) else None)
    else (if not (list_any is_colon line) then Some (NoColon number)
    else (if not (is_field_name (name_of line)) then Some (BadFieldName number)
    else (if list_any (is_same_name (name_of line)) (field_names before) then Some (DoubleField number)
    else None)))

-- the first fault of the line at a place of a stanza
abbrev pub fault_at : RawStanza → ℕ → Option ControlError
fault_at raw place = line_fault (raw.line + place) (take place raw.lines) (slice_index_or raw.lines place [])

-- no line before this place has a fault
abbrev pub IsSoundBelow : RawStanza → ℕ → Type 0
IsSoundBelow raw place = (earlier : ℕ) → earlier < place → fault_at raw earlier ≡ None

-- no line has a fault
abbrev pub IsSound : RawStanza → Type 0
IsSound raw = IsSoundBelow raw (length raw.lines)

-- the first faulty line of the stanza decides, with its first fault
pub record HasFault (raw : RawStanza) (error : ControlError) : Type 0 where
  pub place : ℕ
  pub within : place < length raw.lines
  pub first : IsSoundBelow raw place
  pub fault : fault_at raw place ≡ Some error
