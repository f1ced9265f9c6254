use Rattle.std.proofs.Common.{◌≡◌, length}
use Rattle.dist_space.proofs.FrameLemmas.{AreNumbers}
use Rattle.dist_space.proofs.frame.push_cluster_numbers.Given as goal

abbrev pub invariant-loop-member : goal.invariant-loop-member
invariant-loop-member l = record { counted : length l.numbers.items ≡ l.member; are : AreNumbers l.clusters.members l.numbers.items l.member }
