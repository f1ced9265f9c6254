-- What a contract sees of a field.
use Rattle.std.specs.Prelude.{ℕ, List}
use Rattle.dist_control.specs.declared.field_list.Field.{Field}

-- a name, a value, and the number of their first line
pub record FieldText : Type 0 where
  pub name : List ℕ
  pub value : List ℕ
  pub line : ℕ

abbrev pub field_text : Field → FieldText
field_text field = record { name = field.name.now; value = field.value.now; line = field.line }
