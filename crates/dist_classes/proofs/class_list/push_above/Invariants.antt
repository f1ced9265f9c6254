use Rattle.std.proofs.Common.{◌≡◌, ◌++◌, length}
use Rattle.dist_classes.specs.ClassList.{classes_above}
use Rattle.dist_classes.specs.SortedPrivate.{cuts_after}
use Rattle.dist_classes.proofs.class_list.push_above.Given as goal

-- what is there and what is still to come are all
abbrev pub invariant-loop-rest : goal.invariant-loop-rest
invariant-loop-rest l = l.classes.items ++ classes_above l.last (cuts_after l.last l.rest) ≡ l.fn.classes.items
    ++ classes_above l.low (cuts_after l.low l.sorted)

abbrev pub decreases-loop-rest : goal.decreases-loop-rest
decreases-loop-rest l = length l.rest
