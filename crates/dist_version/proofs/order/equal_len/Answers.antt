use Rattle.std.proofs.Common.{arith}
use Rattle.std.proofs.lemmas.List.{take_more_same}
use Rattle.dist_version.proofs.order.equal_len.Goals as goal

pub loop-end-preserved : goal.loop-end-preserved
loop-end-preserved c =
    (omega arith, take_more_same c.args.a.now c.args.b.now c.loop-end.end 0 (omega arith) (omega arith) c.loop-end.invariant.1 c.if-a-end.true)
