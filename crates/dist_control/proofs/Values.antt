-- How many bytes the values of fields have: no more than the lines that spell them.
use Rattle.std.proofs.Common.{◌≡◌, ℕ, ◌+◌, ◌-◌, ◌≤◌, true, false, cond, List, [], ◌∷◌, length, reverse, sum_by, arith, length-append}
use Rattle.std.specs.List.{join_with_byte, after_first, position_or_len}
use Rattle.std.proofs.lemmas.List.{length-reverse, length-drop}
use Rattle.std.proofs.lemmas.List.Sums.{sum_by-cons}
use Rattle.dist_base.specs.Ascii.{is_colon, is_white, line_feed}
use Rattle.dist_control.specs.Bytes.{is_continuation}
use Rattle.dist_control.specs.FieldText.{FieldText}
use Rattle.dist_control.specs.Fields.{trim_start, trim, continuations, field_spelled, fields_from, value_bytes}
use Rattle.dist_control.specs.RawStanza.{RawStanza, raw_stanzas}
use Rattle.dist_control.proofs.Bounds.{total, sizes, total-cons, sizes-cons, size-raw_stanzas}

trim_start-le : (text : List ℕ) → length (trim_start text) ≤ length text
trim_start-le [] = omega arith
trim_start-le (byte ∷ text) =
    elim (is_white byte) as (λ b. length (cond b (trim_start text) (byte ∷ text)) ≤ length (byte ∷ text)) [
      | true ↦ omega (arith, trim_start-le text)
      | false ↦ omega arith
    ]

trim-le : (text : List ℕ) → length (trim text) ≤ length text
trim-le text =
    omega (
      arith,
      length-reverse (trim_start (reverse (trim_start text))),
      trim_start-le (reverse (trim_start text)),
      length-reverse (trim_start text),
      trim_start-le text,
    )

joined-length : (line : List ℕ) (more : List (List ℕ)) → length (join_with_byte line_feed (line ∷ more)) ≡ length line + total more
joined-length line [] = omega arith
joined-length line (next ∷ more) =
    omega (arith, length-append line (line_feed ∷ join_with_byte line_feed (next ∷ more)), joined-length next more, total-cons next more)

spelled-le : (number : ℕ) (line : List ℕ) (more : List (List ℕ)) → length ((field_spelled number line more).value) ≤ length line + total more
spelled-le number line more =
    omega (
      arith,
      trim-le (join_with_byte line_feed (after_first is_colon line ∷ more)),
      joined-length (after_first is_colon line) more,
      length-drop (position_or_len is_colon line + 1) line,
    )

values-cons : (field : FieldText) (fields : List FieldText) → value_bytes (field ∷ fields) ≡ length field.value + value_bytes fields
values-cons field fields = sum_by-cons (λ (f : FieldText). length f.value) field fields

-- the continuation lines in front stand in no value of the fields behind them
values-within : (number : ℕ) (ls : List (List ℕ)) → total (continuations ls) + value_bytes (fields_from number ls) ≤ total ls
values-within number [] = omega arith
values-within number (line ∷ rest) =
    let field : FieldText = field_spelled number line (continuations rest) in
    let others : List FieldText = fields_from (number + 1) rest in
    elim (is_continuation line) as (λ b. total (cond b (line ∷ continuations rest) []) + value_bytes (cond b others (field ∷ others)) ≤ total (line ∷ rest)) [
      | true ↦ omega (arith, total-cons line (continuations rest), total-cons line rest, values-within (number + 1) rest)
      | false ↦ omega (arith, values-cons field others, spelled-le number line (continuations rest), total-cons line rest, values-within (number + 1) rest)
    ]

-- and one byte at least, as a line feed, stands in no value
values-less : (number : ℕ) (ls : List (List ℕ)) → value_bytes (fields_from number ls) ≤ total ls - 1
values-less number [] = omega arith
values-less number (line ∷ rest) =
    let field : FieldText = field_spelled number line (continuations rest) in
    let others : List FieldText = fields_from (number + 1) rest in
    elim (is_continuation line) as (λ b. value_bytes (cond b others (field ∷ others)) ≤ total (line ∷ rest) - 1) [
      | true ↦ omega (arith, total-cons line rest, values-within (number + 1) rest)
      | false ↦ omega (arith, values-cons field others, spelled-le number line (continuations rest), total-cons line rest, values-within (number + 1) rest)
    ]

-- the bytes of the values of a raw stanza's fields
abbrev values_of : RawStanza → ℕ
values_of raw = value_bytes (fields_from raw.line raw.lines)

values-sizes : (raws : List RawStanza) → sum_by values_of raws ≤ sizes raws - 1
values-sizes [] = omega arith
values-sizes (raw ∷ raws) =
    omega (arith, sum_by-cons values_of raw raws, sizes-cons raw raws, values-less raw.line raw.lines, values-sizes raws)

pub values-bytes : (text : List ℕ) → sum_by (λ raw. value_bytes (fields_from raw.line raw.lines)) (raw_stanzas text) ≤ length text
values-bytes text = omega (arith, values-sizes (raw_stanzas text), size-raw_stanzas text)
