use Rattle.std.proofs.Common.{◌≡◌, ◌+◌, ℕ, List, ◌∷◌, sym, ap, ◌∙◌, arith}
use Rattle.std.specs.List.{join_with_byte}
use Rattle.dist_control.specs.Fields.{trim}
use Rattle.dist_control.specs.FieldText.{FieldText}
use Rattle.dist_control.proofs.FieldLemmas.{value-spelled}
use Rattle.dist_control.proofs.field.read_field.Goals as goal

same_field : (name value other_name other_value : List ℕ) (line : ℕ) → name ≡ other_name → value ≡ other_value →
    (let a : FieldText = record { name = name; value = value; line = line } in
    let b : FieldText = record { name = other_name; value = other_value; line = line } in a ≡ b)
same_field name value other_name other_value line names values =
    let first : List ℕ → FieldText = λ n. record { name = n; value = value; line = line } in
    let second : List ℕ → FieldText = λ v. record { name = other_name; value = v; line = line } in
    ap first names ∙ ap second values

pub returns : goal.returns
returns c =
    let split = c.split_field-next.ensures in
    let line = c.split_field-next.result.0.now in
    let more = split.field.0 in
    let at = c.in-Ok.ensures.0 in
    let k = c.in-Ok.colon in
    record {
      line = line;
      more = more;
      pieces = split.field.1.pieces;
      continued = split.field.1.continued;
      has_colon = at.found;
      named = c.in-Ok.ensures.1;
      spelled = same_field _ _ _ _ _ (sym at.before)
          (c.trimmed-value.ensures ∙ value-spelled c.args.bytes.now line c.split_field-next.result.1.now more (k + 1) split.field.1.front
          (omega (arith, at.within))
          ∙ ap (λ (t : List ℕ). trim (join_with_byte 10 (t ∷ more))) (sym at.after));
      counted = split.field.2;
      ends = split.ends;
      room = split.room;
      shorter = split.shorter;
    }
