use Rattle.std.proofs.Common.{rules}
use Rattle.dist_generate.specs.Draws.{next_state}
use Rattle.dist_generate.proofs.draws.Draws.draw.Goals as goal

pub returns-clause-value : goal.returns-clause-value
unfolding next_state
returns-clause-value c = search rules

pub returns-clause-moved : goal.returns-clause-moved
unfolding next_state
returns-clause-moved c = search rules
