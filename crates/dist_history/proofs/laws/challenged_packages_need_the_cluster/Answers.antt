use Rattle.dist_history.proofs.MissingLemmas.{challenge-needs, class-needs}
use Rattle.dist_history.proofs.laws.challenged_packages_need_the_cluster.Goals as goal

pub returns-clause-version : goal.returns-clause-version
returns-clause-version c = λ essential r c' p version future flat challenges is_future none.
    challenge-needs essential r c' p version future flat challenges is_future none

pub returns-clause-class : goal.returns-clause-class
returns-clause-class c = λ s cluster class c' p future space of within challenged is_future none.
    class-needs s cluster class c' p future space of within challenged is_future none
