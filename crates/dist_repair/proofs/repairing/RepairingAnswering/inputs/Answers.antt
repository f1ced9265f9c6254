use Rattle.std.proofs.Common.{arith}
use Rattle.dist_repair.proofs.InputsLemmas.{too-much}
use Rattle.dist_repair.proofs.repairing.RepairingAnswering.inputs.Goals as goal

pub returns-then-most-gt-MAX_MOST-clause-ok : goal.returns-then-most-gt-MAX_MOST-clause-ok
returns-then-most-gt-MAX_MOST-clause-ok c =
    let most = c.number_at-most.ensures in
    let above = c.if-most-gt-MAX_MOST.true in
    too-much c.args.self.now.space.now c.args.limits.now c.args.numbers.now (omega (arith, most, above))
