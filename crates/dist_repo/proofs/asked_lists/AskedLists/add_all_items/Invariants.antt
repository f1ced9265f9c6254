use Rattle.dist_repo.specs.AskedPrivate.{AreAskedOfItems}
use Rattle.dist_repo.proofs.asked_lists.AskedLists.add_all_items.Given as goal

-- what is told so far is enough
abbrev pub invariant-loop-number : goal.invariant-loop-number
invariant-loop-number l = AreAskedOfItems l.packages l.self
