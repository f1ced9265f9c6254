use Rattle.std.proofs.Common.{List, ℕ, map, sym, ap, ◌∙◌, false, get_or}
use Rattle.std.specs.List.{list_any}
use Rattle.dist_control.specs.Fields.{is_same_name}
use Rattle.dist_control.specs.FieldText.{FieldText, field_text}
use Rattle.dist_control.proofs.MarkLemmas.{unmarked}
use Rattle.dist_control.proofs.field_list.Fields.may_have.Goals as goal

pub returns : goal.returns
returns c free =
    let marks = c.self.inside.marks in
    ap (λ (fs : List FieldText). list_any (λ field. is_same_name c.args.name.now field.name) fs) (sym c.self.view_is)
    ∙ unmarked c.args.name.now marks (map field_text c.self.inside.items.items) c.self.invariant.set
    (ap (λ (k : ℕ). get_or marks k false) (sym c.mark_of.ensures.mark) ∙ free)
