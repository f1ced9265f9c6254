use Rattle.std.proofs.Common.{◌≡◌, ◌++◌, map}
use Rattle.dist_journal.specs.PairsPrivate.{pair_of}
use Rattle.dist_journal.proofs.broken_list.listed.Given as goal

abbrev pub invariant-loop-key : goal.invariant-loop-key
invariant-loop-key l = map pair_of l.list.items ++ l.key-iterator ≡ l.found.keys
