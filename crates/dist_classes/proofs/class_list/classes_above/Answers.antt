use Rattle.std.proofs.Common.{inl, ◌∙◌, ap, ◌++◌, List}
use Rattle.dist_classes.specs.ClassList.{classes_above}
use Rattle.dist_classes.specs.SortedPrivate.{cuts_after}
use Rattle.dist_classes.specs.declared.class_value.Class.{Class}
use Rattle.dist_classes.proofs.SortedLemmas.{cuts-rise}
use Rattle.dist_classes.proofs.class_list.classes_above.Goals as goal

pub keep-requires : goal.keep-requires
keep-requires c =
    let top = c.args.top.now in
    let sorted = c.args.sorted.now in
    inl (record {
      top = top;
      cuts = cuts_after top sorted;
      rising = cuts-rise top sorted;
      are = c.in-Ok.ensures ∙ ap (λ (classes : List Class). classes ++ classes_above top (cuts_after top sorted)) c.new-classes.ensures.items;
    })
