use Rattle.dist_archive.proofs.GrowLemmas.{made-more, made-none}
use Rattle.dist_archive.proofs.laws.lists_of_steps_grow.Goals as goal

pub returns-clause-none : goal.returns-clause-none
returns-clause-none c = made-none

pub returns-clause-more : goal.returns-clause-more
returns-clause-more c = λ s steps step old middle new space made unrefused makes.
    made-more s space.frame step middle new unrefused makes steps old made
