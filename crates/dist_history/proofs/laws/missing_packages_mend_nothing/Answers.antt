use Rattle.dist_history.proofs.MissingLemmas.{challenge-stays, whole-no-other}
use Rattle.dist_history.proofs.laws.missing_packages_mend_nothing.Goals as goal

pub returns-clause-future : goal.returns-clause-future
returns-clause-future c = λ essential r c' p version future flat challenges is_future only.
    challenge-stays essential r c' p version future flat challenges is_future only

pub returns-clause-steps : goal.returns-clause-steps
returns-clause-steps c = λ essential s c' p version steps old new space challenges before lead only.
    challenge-stays essential s.repository c' p version new space.frame.flat challenges
    (c.steps_reach_futures.ensures.steps s steps old new space before lead) only

pub returns-clause-whole : goal.returns-clause-whole
returns-clause-whole c = λ r future c' version is_future whole. whole-no-other r future c' version is_future.one_of_a_name whole
