-- The fields of the lines of a stanza (Debian Policy 5.1): a field is one field line and the continuation
-- lines up to the next field line.
use Rattle.std.specs.Prelude.{ℕ, ◌+◌, List, [], ◌∷◌, if◌then◌else◌, length, map, reverse, not, filter, sum_by, Bool}
use Rattle.std.specs.Char.{to_ascii_lowercase}
use Rattle.std.specs.List.{before_first, after_first, join_with_byte}
use Rattle.std.specs.Str.{bytes_eq}
use Rattle.dist_base.specs.Ascii.{is_colon, is_white, line_feed}
use Rattle.dist_control.specs.Bytes.{is_continuation}
use Rattle.dist_control.specs.FieldText.{FieldText}

-- the name of a field line: what stands before its first colon
abbrev pub name_of : List ℕ → List ℕ
name_of line = before_first is_colon line

-- a text without white space in front
abbrev pub trim_start : List ℕ → List ℕ
trim_start [] = []
trim_start (byte ∷ text) = if is_white byte then trim_start text else byte ∷ text

-- a text without white space at both ends
abbrev pub trim : List ℕ → List ℕ
trim text = reverse (trim_start (reverse (trim_start text)))

-- the continuation lines that come next
abbrev pub continuations : List (List ℕ) → List (List ℕ)
continuations [] = []
continuations (line ∷ rest) = if is_continuation line then line ∷ continuations rest else []

-- What a field line of this number and its continuation lines spell. The value is what stands after the
-- first colon up to the end of the last line, without white space at both ends.
abbrev pub field_spelled : (number : ℕ) (line : List ℕ) (more : List (List ℕ)) → FieldText
field_spelled number line more = record {
  name = name_of line;
  value = trim (join_with_byte line_feed (after_first is_colon line ∷ more));
  line = number;
}

-- the fields of lines that are numbered from here, one for each line that is no continuation
abbrev pub fields_from : (number : ℕ) → List (List ℕ) → List FieldText
fields_from number [] = []
fields_from number (line ∷ rest) =
    if is_continuation line
    then fields_from (number + 1) rest
    else field_spelled number line (continuations rest) ∷ fields_from (number + 1) rest

-- a name in lower case
abbrev pub folded : List ℕ → List ℕ
folded name = map to_ascii_lowercase name

-- two names are the same, ASCII case apart
abbrev pub is_same_name : List ℕ → List ℕ → Bool
is_same_name name other = bytes_eq (folded name) (folded other)

-- the names of the field lines among these
abbrev pub field_names : List (List ℕ) → List (List ℕ)
field_names lines = map name_of (filter (λ line. not (is_continuation line)) lines)

-- how many bytes the values of these fields have together
abbrev pub value_bytes : List FieldText → ℕ
value_bytes fields = sum_by (λ field. length field.value) fields
