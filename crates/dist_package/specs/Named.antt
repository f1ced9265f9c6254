-- The fields of a stanza by their names, and the text and place of a fault.
use Rattle.std.specs.Prelude.{◌≡◌, ℕ, List, Option, Some, find, [], codes}
use Rattle.std.specs.Option.{option_map_or}
use Rattle.dist_control.specs.FieldText.{FieldText}
use Rattle.dist_control.specs.Fields.{is_same_name}
use Rattle.dist_control.specs.declared.field_list.Stanza.{Stanza}
use Rattle.dist_package.specs.declared.error.Fault.{Fault}
use Rattle.dist_package.specs.declared.error.Kind.{Kind}
use Rattle.dist_package.specs.declared.error.RelationField.{RelationField}
use Rattle.dist_package.specs.declared.error.RelationField.TheVariants.{PreDepends, Depends, Conflicts, Breaks}
use Rattle.dist_package.specs.declared.error.RelationField.TheVariants.{Provides}

-- the field of a name, ASCII case apart
abbrev pub field_named : Stanza → List ℕ → Option FieldText
field_named stanza name = find (λ field. is_same_name name field.name) stanza.fields

-- the value of a field, which is empty where there is no such field
abbrev pub value_of : Stanza → List ℕ → List ℕ
value_of stanza name = option_map_or (λ field. field.value) (field_named stanza name) []

-- the line of a field, or of the stanza where there is no such field
abbrev pub line_of : Stanza → List ℕ → ℕ
line_of stanza name = option_map_or (λ field. field.line) (field_named stanza name) stanza.line

-- a field of this name has this value and stands at this line
pub record IsFieldOf (stanza : Stanza) (name value : List ℕ) (line : ℕ) : Type 0 where
  pub field : FieldText
  pub found : field_named stanza name ≡ Some field
  pub value_is : field.value ≡ value
  pub line_is : field.line ≡ line

abbrev pub fault_on : ℕ → Kind → Fault
fault_on line kind = record { line = line; kind = kind }

-- the names of the fields that have relations
abbrev pub relation_field_name : RelationField → List ℕ
relation_field_name PreDepends = codes "Pre-Depends"
relation_field_name Depends = codes "Depends"
relation_field_name Conflicts = codes "Conflicts"
relation_field_name Breaks = codes "Breaks"
relation_field_name Provides = codes "Provides"
