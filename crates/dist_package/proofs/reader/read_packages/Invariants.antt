use Rattle.std.proofs.Common.{length}
use Rattle.dist_package.proofs.SoFar.{IsFileSoFar}
use Rattle.dist_package.proofs.reader.read_packages.Given as goal

abbrev pub invariant-loop-reader : goal.invariant-loop-reader
invariant-loop-reader l = IsFileSoFar l.bytes l.stanzas l.reader l.builder l.architecture l.count

abbrev pub decreases-loop-reader : goal.decreases-loop-reader
decreases-loop-reader l = length l.reader.left
