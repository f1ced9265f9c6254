use Rattle.dist_version.proofs.Lighter.{lighter_parts}
use Rattle.dist_version.proofs.Turns.{weights_of-empty, weights_of-turn}
use Rattle.dist_version.proofs.laws.weights_decide.Goals as goal

pub returns-clause-first : goal.returns-clause-first
returns-clause-first c = lighter_parts

pub returns-clause-empty : goal.returns-clause-empty
returns-clause-empty c = weights_of-empty

pub returns-clause-turn : goal.returns-clause-turn
returns-clause-turn c = weights_of-turn
