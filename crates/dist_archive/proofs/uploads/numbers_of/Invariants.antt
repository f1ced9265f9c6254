use Rattle.dist_archive.proofs.MembersLemmas.{AreNumbersSoFar}
use Rattle.dist_archive.proofs.uploads.numbers_of.Given as goal

abbrev pub invariant-loop-number : goal.invariant-loop-number
invariant-loop-number l = AreNumbersSoFar l.repo.packages l.block.packages l.number l.numbers.items
