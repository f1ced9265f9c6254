use Rattle.std.proofs.Common.{◌≡◌, map, take}
use Rattle.dist_covering.specs.Used.{pair_at}
use Rattle.dist_challenge.specs.GroupPrivate.{AreSmallPairs}
use Rattle.dist_challenge.proofs.challenged_claimant.pairs_of.Given as goal

abbrev pub invariant-loop-at : goal.invariant-loop-at
invariant-loop-at l = record {
  value : l.pairs.items ≡ map (pair_at l.space) (take l.at-index l.ats);
  small : AreSmallPairs l.pairs.items;
}
