use Rattle.std.proofs.Common.{take}
use Rattle.dist_explain.proofs.ListedLemmas.{IsMissingOf}
use Rattle.dist_explain.proofs.listed.only_missing.Given as goal

abbrev pub invariant-loop-number : goal.invariant-loop-number
invariant-loop-number l = IsMissingOf (take l.number-index l.numbers) l.offset l.list l.found
