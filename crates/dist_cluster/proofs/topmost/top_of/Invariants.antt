use Rattle.std.proofs.Common.{take}
use Rattle.dist_cluster.proofs.TopLemmas.{IsHighest}
use Rattle.dist_cluster.proofs.topmost.top_of.Given as goal

-- none of the members so far stands above the top
abbrev pub invariant-loop-place : goal.invariant-loop-place
invariant-loop-place l = IsHighest l.entries (take l.place l.cluster) l.top
