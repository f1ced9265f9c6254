use Rattle.std.proofs.Common.{◌≡◌, ◌++◌, map, take}
use Rattle.dist_explain.specs.RelationListPrivate.{pair_with}
use Rattle.dist_explain.proofs.relations.add_pairs_of.Given as goal

abbrev pub invariant-loop-second : goal.invariant-loop-second
invariant-loop-second l = l.list.items ≡ l.initial.list.items ++ map (pair_with l.first) (take l.second-index l.seconds)
