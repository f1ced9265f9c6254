use Rattle.std.proofs.Common.{◌-◌}
use Rattle.dist_repo.specs.SpansPrivate.{IsEdgeWithin}
use Rattle.dist_repo.proofs.spans.edge_within.Given as goal

-- the edge is at one of these places
abbrev pub invariant-loop-low : goal.invariant-loop-low
invariant-loop-low l = IsEdgeWithin l.packages l.name l.past l.low l.high

abbrev pub decreases-loop-low : goal.decreases-loop-low
decreases-loop-low l = l.high - l.low
