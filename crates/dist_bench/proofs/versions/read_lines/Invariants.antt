use Rattle.std.proofs.Common.{length}
use Rattle.dist_bench.proofs.LinesRead.{VersionsSoFar}
use Rattle.dist_bench.proofs.versions.read_lines.Given as goal

abbrev pub invariant-loop-rest : goal.invariant-loop-rest
invariant-loop-rest l = VersionsSoFar l.text l.rest l.versions.items

abbrev pub decreases-loop-rest : goal.decreases-loop-rest
decreases-loop-rest l = length l.rest
