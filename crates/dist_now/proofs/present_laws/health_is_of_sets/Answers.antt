use Rattle.dist_now.proofs.SetLemmas.{health-of-sets}
use Rattle.dist_now.proofs.present_laws.health_is_of_sets.Goals as goal

pub returns : goal.returns
returns c = health-of-sets
