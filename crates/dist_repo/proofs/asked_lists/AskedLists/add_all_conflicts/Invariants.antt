use Rattle.dist_repo.specs.AskedPrivate.{AreAskedOfConflicts}
use Rattle.dist_repo.proofs.asked_lists.AskedLists.add_all_conflicts.Given as goal

-- what is told so far is enough
abbrev pub invariant-loop-number : goal.invariant-loop-number
invariant-loop-number l = AreAskedOfConflicts l.packages l.self
