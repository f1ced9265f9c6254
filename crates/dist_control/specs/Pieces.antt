-- What the private functions of the reader say: how a text is cut into lines, fields and stanzas.
use Rattle.std.specs.Prelude.{◌≡◌, ℕ, ◌+◌, ◌-◌, ◌*◌, ◌%◌, ◌^◌, ◌<◌, ◌⊎◌, Bool, true, false, List, [], ◌∷◌, ◌++◌, Some}
use Rattle.std.specs.Prelude.{length, map, take, drop, get_or}
use Rattle.std.specs.List.{list_any, flat_map, after_first}
use Rattle.std.specs.Str.{bytes_eq}
use Rattle.dist_base.specs.Ascii.{is_colon, line_feed}
use Rattle.dist_control.specs.Bytes.{is_blank, is_continuation, is_field_name}
use Rattle.dist_control.specs.declared.error.ControlError.{ControlError}
use Rattle.dist_control.specs.declared.error.ControlError.TheVariants.{NoColon, BadFieldName}
use Rattle.dist_control.specs.declared.field_list.TheConstants.{EARLY_FIELDS}
use Rattle.dist_control.specs.declared.marks.TheConstants.{MARKS}
use Rattle.dist_control.specs.Faults.{line_fault, IsSound}
use Rattle.dist_control.specs.FieldText.{FieldText}
use Rattle.dist_control.specs.Fields.{name_of, folded, field_spelled, fields_from}
use Rattle.dist_control.specs.Lines.{lines, IsCutAtLine}
use Rattle.dist_control.specs.RawStanza.{RawStanza, run, raw_stanzas_from}

-- the next of these lines, if there is one, is not blank
abbrev pub IsAtStanza : List (List ℕ) → Type 0
IsAtStanza [] = Unit {0}
IsAtStanza (line ∷ rest) = is_blank line ≡ false

-- the next of these lines is neither blank nor a continuation line
abbrev pub IsAtField : List (List ℕ) → Type 0
IsAtField [] = ⊥
IsAtField (line ∷ rest) = (is_blank line ≡ false) × (is_continuation line ≡ false)

-- there is no next line, or it is blank or a continuation line
abbrev pub IsAtNoField : List (List ℕ) → Type 0
IsAtNoField [] = Unit {0}
IsAtNoField (line ∷ rest) = (is_blank line ≡ true) ⊎ (is_continuation line ≡ true)

-- the next of these lines, if there is one, is no continuation line
abbrev pub EndsField : List (List ℕ) → Type 0
EndsField [] = Unit {0}
EndsField (line ∷ rest) = is_continuation line ≡ false

-- each of these lines is a continuation line and not blank
abbrev pub AreContinuations : List (List ℕ) → Type 0
AreContinuations [] = Unit {0}
AreContinuations (line ∷ rest) = (is_continuation line ≡ true) × (is_blank line ≡ false) × AreContinuations rest

-- a text begins with a blank line, and this comes after it
pub record IsBlankBefore (text after : List ℕ) : Type 0 where
  pub line : List ℕ
  pub blank : is_blank line ≡ true
  pub pieces : lines text ≡ line ∷ lines after
  pub shorter : length after < length text

-- a text begins with a continuation line that is not blank, and this comes after it
pub record IsContinuedTo (text after : List ℕ) : Type 0 where
  pub line : List ℕ
  pub continuation : is_continuation line ≡ true
  pub not_blank : is_blank line ≡ false
  pub pieces : lines text ≡ line ∷ lines after
  pub cut : IsCutAtLine text line after
  pub shorter : length after < length text

-- lines with a line feed after each
abbrev pub ended : List (List ℕ) → List ℕ
ended lines = flat_map (λ line. line ++ line_feed ∷ []) lines

-- these lines stand at the front of a text, and this comes after them; the last one may lack its line feed
pub record HasInFront (text : List ℕ) (front : List (List ℕ)) (after : List ℕ) : Type 0 where
  pub taken : List ℕ
  pub cut : text ≡ taken ++ after
  pub spelled : (taken ≡ ended front) ⊎ ((after ≡ []) × (taken ++ line_feed ∷ [] ≡ ended front))

-- a text begins with a line and its continuation lines, and this comes after them
pub record IsFieldInFront (text line : List ℕ) (more : List (List ℕ)) (after : List ℕ) : Type 0 where
  pub pieces : lines text ≡ line ∷ more ++ lines after
  pub front : HasInFront text (line ∷ more) after
  pub continued : AreContinuations more

-- the first colon of a line stands at this place
pub record IsFirstColon (line : List ℕ) (place : ℕ) : Type 0 where
  pub within : place < length line
  pub found : list_any is_colon line ≡ true
  pub before : name_of line ≡ take place line
  pub after : after_first is_colon line ≡ drop (place + 1) line

-- The field at the front of a text has no fault of its own, and this comes after it, at a line of this number.
pub record ReadsField (number : ℕ) (text : List ℕ) (field : FieldText) (after : List ℕ) (next : ℕ) : Type 0 where
  pub line : List ℕ
  pub more : List (List ℕ)
  pub pieces : lines text ≡ line ∷ more ++ lines after
  pub continued : AreContinuations more
  pub has_colon : list_any is_colon line ≡ true
  pub named : is_field_name (name_of line) ≡ true
  pub spelled : field ≡ field_spelled number line more
  pub counted : next ≡ number + 1 + length more
  pub ends : EndsField (run (lines after))
  pub room : next + length after < 2 ^ 64
  pub shorter : length after < length text

-- what the name of a line lacks: it has no colon behind it, or is no field name
abbrev pub IsNameFault : (number : ℕ) (line : List ℕ) → ControlError → Type 0
IsNameFault number line error =
    ((error ≡ NoColon number) × (list_any is_colon line ≡ false))
    ⊎ ((error ≡ BadFieldName number) × (list_any is_colon line ≡ true) × (is_field_name (name_of line) ≡ false))

-- the first line, which is no continuation line, has this fault, whatever lines are before it in its stanza
pub record IsFieldFault (number : ℕ) (text : List ℕ) (error : ControlError) : Type 0 where
  pub line : List ℕ
  pub rest : List (List ℕ)
  pub pieces : lines text ≡ line ∷ rest
  pub fault : (before : List (List ℕ)) → is_continuation line ≡ false → line_fault number before line ≡ Some error

-- the raw stanza at the front of a text whose first line has this number
abbrev pub raw_here : ℕ → List ℕ → RawStanza
raw_here number text = record { line = number; lines = run (lines text) }

-- where a reader stands: with room for the numbers of all lines, at the end or at a line that is not blank
pub record IsReaderPlace (number : ℕ) (text : List ℕ) : Type 0 where
  pub room : number + length text < 2 ^ 64
  pub at_stanza : IsAtStanza (lines text)

-- the stanza at the front of a text has no fault and these fields, and this comes after it
pub record ReadsFields (number : ℕ) (text : List ℕ) (fields : List FieldText) (after : List ℕ) (next : ℕ) : Type 0 where
  pub sound : IsSound (raw_here number text)
  pub spelled : fields ≡ fields_from number (run (lines text))
  pub stanzas : raw_stanzas_from next true (lines after) ≡ raw_stanzas_from number false (lines text)
  pub room : next + length after < 2 ^ 64

-- the names of fields, in lower case
abbrev pub folded_names : List FieldText → List (List ℕ)
folded_names fields = map (λ field. folded field.name) fields

-- the names of the fields after the early ones are these, in lower case
abbrev pub AreLateNames : List FieldText → List (List ℕ) → Type 0
AreLateNames fields names =
    (name : List ℕ) → list_any (bytes_eq name) names
    ≡ list_any (bytes_eq name) (drop EARLY_FIELDS (folded_names fields))

-- the mark of a name in lower case: of its first byte, its last and its length
abbrev pub mark_of : List ℕ → ℕ
mark_of name = (3 * get_or name 0 0 + 5 * get_or name (length name - 1) 0 + length name % MARKS) % MARKS

-- the marks of the names of these fields are all set
abbrev pub AreSet : List Bool → List FieldText → Type 0
AreSet marks [] = Unit {0}
AreSet marks (field ∷ fields) = (get_or marks (mark_of (folded field.name)) false ≡ true) × AreSet marks fields

-- a table of marks in which those of the names of these fields are set
pub record AreMarked (marks : List Bool) (fields : List FieldText) : Type 0 where
  pub size : length marks ≡ MARKS
  pub set : AreSet marks fields
