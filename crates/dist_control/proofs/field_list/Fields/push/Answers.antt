use Rattle.std.proofs.Common.{◌∷◌, [], map, sym, ap, ◌∙◌, subst}
use Rattle.std.proofs.lemmas.List.{map-append}
use Rattle.std.proofs.Math.ListN.{set}
use Rattle.dist_control.specs.FieldText.{field_text}
use Rattle.dist_control.specs.Pieces.{AreMarked}
use Rattle.dist_control.proofs.MarkLemmas.{marks-push}
use Rattle.dist_control.proofs.field_list.Fields.push.Goals as goal

pub invariant_of-self-2 : goal.invariant_of-self-2
invariant_of-self-2 c =
    let marks = c.self.inside.marks in
    let fields = c.self.inside.items.items in
    let now = ap (map field_text) c.in_ok-push.ensures.ok ∙ map-append field_text fields (c.args.field ∷ []) in
    subst (AreMarked (set marks c.mark_of-mark.result _)) (sym now)
    (marks-push marks (map field_text fields) (field_text c.args.field) c.mark_of-mark.result c.self.invariant c.mark_of-mark.ensures.mark
    c.mark_of-mark.ensures.within)
