use Rattle.dist_archive.specs.FoundPrivate.{AreChecked}
use Rattle.dist_archive.proofs.fitting.check.Given as goal

abbrev pub invariant-loop-place : goal.invariant-loop-place
invariant-loop-place l = AreChecked l.space l.later.packages l.place l.founds.items
