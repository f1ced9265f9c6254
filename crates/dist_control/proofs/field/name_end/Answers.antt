use Rattle.std.proofs.Common.{◌≡◌, false, refl, sym, inr}
use Rattle.std.proofs.lemmas.Bool.{false_from_ne_true, both_ways}
use Rattle.dist_control.specs.Bytes.{is_field_name}
use Rattle.dist_control.specs.Fields.{name_of}
use Rattle.dist_control.proofs.FieldLemmas.{named-at_colon, colon-from_named}
use Rattle.dist_control.proofs.field.name_end.Goals as goal
use Rattle.dist_control.proofs.field.name_end.Goals.{else-has_colon_at-via-then-has_colon_at+else-begins_name, else-has_colon_at-via-else-has_colon_at}

pub returns-then-begins_name : goal.returns-then-begins_name
returns-then-begins_name c =
    named-at_colon c.args.line.now c.name_length-end.result c.name_length-end.ensures (sym c.if-has_colon_at.ensures) (sym c.if-begins_name.ensures)

pub returns-then-has_colon : goal.returns-then-has_colon
returns-then-has_colon c =
    let bad : is_field_name (name_of c.args.line.now) ≡ false = false_from_ne_true _ (λ named.
    let ended = colon-from_named c.args.line.now c.name_length-end.result c.name_length-end.ensures (sym c.if-has_colon.ensures) named in
    elim c.else-has_colon_at.branch [
      | else-has_colon_at-via-then-has_colon_at+else-begins_name w ↦ both_ways _ (sym w.if-begins_name.ensures) ended.1
      | else-has_colon_at-via-else-has_colon_at w ↦ both_ways _ (sym w.if-has_colon_at.ensures) ended.0
    ]) in
    inr (refl, sym c.if-has_colon.ensures, bad)
