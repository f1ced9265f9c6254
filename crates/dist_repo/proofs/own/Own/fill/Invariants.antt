use Rattle.dist_repo.specs.OwnPrivate.{AreCounted, AreOwn}
use Rattle.dist_repo.proofs.own.Own.fill.Given as goal

-- the offers of the packages so far, and their numbers
abbrev pub invariant-loop-number : goal.invariant-loop-number
invariant-loop-number l = AreCounted l.number l.self.numbers.items × AreOwn l.packages l.number l.self.offers.items
