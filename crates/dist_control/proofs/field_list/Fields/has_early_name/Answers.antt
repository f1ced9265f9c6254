use Rattle.std.proofs.Common.{List, take, map, sym, ap, ◌∙◌}
use Rattle.std.proofs.lemmas.List.{take-map}
use Rattle.std.specs.List.{list_any}
use Rattle.dist_control.specs.Fields.{is_same_name}
use Rattle.dist_control.specs.FieldText.{FieldText, field_text}
use Rattle.dist_control.specs.declared.field_list.TheConstants.{EARLY_FIELDS}
use Rattle.dist_control.proofs.MarkLemmas.{early-none}
use Rattle.dist_control.proofs.NameLemmas.{early-any}
use Rattle.dist_control.proofs.field_list.Fields.has_early_name.Goals as goal

pub returns-then-may_have : goal.returns-then-may_have
returns-then-may_have c =
    let Has : List FieldText → _ = λ fs. list_any (λ field. is_same_name c.args.name.now field.name) fs in
    c.is_some.ensures ∙ early-any c.args.name.now c.early.result.now c.field_named.result c.field_named.ensures
    ∙ ap (λ fs. Has (map field_text fs)) (c.early.ensures ∙ ap (take EARLY_FIELDS) c.as_slice.ensures)
    ∙ ap Has (sym (take-map field_text EARLY_FIELDS c.self.inside.items.items) ∙ ap (take EARLY_FIELDS) c.self.view_is)

pub returns-else-may_have : goal.returns-else-may_have
returns-else-may_have c = c.if-may_have.false ∙ early-none c.args.name.now c.args.self.now (c.may_have.ensures c.if-may_have.false)
