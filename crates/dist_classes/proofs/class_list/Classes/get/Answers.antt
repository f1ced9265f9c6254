use Rattle.std.proofs.Common.{◌≡◌, ◌<◌, List, Some, ap, sym, subst, ◌∙◌, slice_get, length}
use Rattle.std.proofs.lemmas.Option.{slice_get-get_or}
use Rattle.dist_classes.specs.declared.class_value.Class.{Class}
use Rattle.dist_classes.proofs.ClassOfLemmas.{all-have}
use Rattle.dist_classes.proofs.class_list.Classes.get.Goals as goal

pub returns-clause-some : goal.returns-clause-some
returns-clause-some c =
    let classes = c.self.inside.classes.items in
    let class : Class = c.index.result.now in
    let Within : List Class → Type 0 = λ list. c.args.place < length list in
    let at : slice_get classes c.args.place ≡ Some class = slice_get-get_or classes c.args.place class (subst Within (sym c.self.view_is) c.requires)
    ∙ ap (λ k. Some k) (sym c.index.ensures) in
    all-have classes c.self.invariant c.args.place class at
