use Rattle.dist_derive.proofs.HintLaws.{steps_hints, any_order, few_steps}
use Rattle.dist_derive.proofs.laws.unit_steps_are_hints.Goals as goal

pub returns : goal.returns
returns c = record { hints = steps_hints; any_order = any_order; few = few_steps }
