use Rattle.dist_repo.proofs.NewestLemmas.{some-latest, one-latest, latest-within}
use Rattle.dist_repo.proofs.laws.latest_is_one.Goals as goal

pub returns-clause-some : goal.returns-clause-some
returns-clause-some c = some-latest

pub returns-clause-one : goal.returns-clause-one
returns-clause-one c = one-latest

pub returns-clause-within_size : goal.returns-clause-within_size
returns-clause-within_size c = latest-within
