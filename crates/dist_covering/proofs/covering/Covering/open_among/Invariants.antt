use Rattle.std.proofs.Common.{◌-◌}
use Rattle.dist_covering.specs.OpenPairs.{AreClustersFrom}
use Rattle.dist_covering.proofs.covering.Covering.open_among.Given as goal

abbrev pub invariant-loop-back : goal.invariant-loop-back
invariant-loop-back l = AreClustersFrom l.self l.window l.own l.number l.clusters (l.clusters - l.back) l.ats.items
