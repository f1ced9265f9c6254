use Rattle.std.proofs.Common.{inr, ◌∙◌, ap, ◌++◌, List}
use Rattle.dist_classes.specs.ClassList.{classes_of_all}
use Rattle.dist_classes.specs.SortedPrivate.{cuts_of}
use Rattle.dist_classes.specs.declared.class_value.Class.{Class}
use Rattle.dist_classes.proofs.SortedLemmas.{all-rise}
use Rattle.dist_classes.proofs.class_list.classes_of_all.Goals as goal

pub keep-requires : goal.keep-requires
keep-requires c =
    let sorted = c.args.sorted.now in
    inr (record {
      cuts = cuts_of sorted;
      rising = all-rise sorted;
      are = c.in-Ok.ensures ∙ ap (λ (classes : List Class). classes ++ classes_of_all (cuts_of sorted)) c.new-classes.ensures.items;
    })
