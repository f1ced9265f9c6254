use Rattle.dist_subject.proofs.PairsOfSpace.{covered-is, pair-for}
use Rattle.dist_subject.proofs.pair_laws.pairs_are_of_the_space.Goals as goal

pub returns-clause-pairs : goal.returns-clause-pairs
returns-clause-pairs c = λ s inputs number cluster class space. pair-for s inputs space number cluster class

pub returns-clause-covered : goal.returns-clause-covered
returns-clause-covered c = λ s inputs members cluster class space is. covered-is s inputs space members cluster class is
