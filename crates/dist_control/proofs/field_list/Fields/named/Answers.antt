use Rattle.std.proofs.Common.{List, map, find, ap, ◌∙◌}
use Rattle.dist_control.specs.Fields.{is_same_name}
use Rattle.dist_control.specs.FieldText.{FieldText, field_text}
use Rattle.dist_control.proofs.MarkLemmas.{not-found}
use Rattle.dist_control.proofs.NameLemmas.{field-named}
use Rattle.dist_control.proofs.field_list.Fields.named.Goals as goal

pub returns-then-not-may_have : goal.returns-then-not-may_have
returns-then-not-may_have c = not-found c.args.name.now c.args.self.now (c.may_have.ensures c.if-not-may_have.true)

pub returns : goal.returns
returns c =
    field-named c.args.name.now c.as_slice.result.now c.field_named.result c.field_named.ensures
    ∙ ap (λ (fs : List FieldText). find (λ field. is_same_name c.args.name.now field.name) fs)
    (ap (map field_text) c.as_slice.ensures ∙ c.self.view_is)
