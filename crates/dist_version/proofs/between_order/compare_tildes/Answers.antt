use Rattle.std.proofs.Common.{◌∙◌, arith}
use Rattle.dist_version.proofs.BetweenOrder.{tildes-end, tildes-stop}
use Rattle.dist_version.proofs.between_order.compare_tildes.Goals as goal

pub returns-then-is_ne : goal.returns-then-is_ne
returns-then-is_ne c =
    tildes-stop c.loop-left.left c.loop-left.rest.now c.compare_weight-order.result (omega arith) c.compare_weight-order.ensures c.if-is_ne.ensures
    ∙ c.loop-left.invariant

pub returns : goal.returns
returns c =
    tildes-end c.loop-left.left c.loop-left.rest.now c.compare_weight.result (omega arith) c.compare_weight.ensures ∙ c.loop-left.invariant
