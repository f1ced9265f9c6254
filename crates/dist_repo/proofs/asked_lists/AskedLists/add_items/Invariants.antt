use Rattle.dist_repo.specs.AskedPrivate.{AreAskedOfItems}
use Rattle.dist_repo.proofs.asked_lists.AskedLists.add_items.Given as goal

-- what is told so far is enough
abbrev pub invariant-loop-place : goal.invariant-loop-place
invariant-loop-place l = AreAskedOfItems l.packages l.self
