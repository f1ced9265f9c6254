use Rattle.std.proofs.Common.{◌+◌, ◌*◌, ◌/◌, ◌≤◌, arith}
use Rattle.dist_lanes.proofs.NextLemmas.{next-behind-mask, clear-behind-mask, next-in-word, zeros-are-clear}
use Rattle.dist_lanes.proofs.words.next_bit.Goals as goal

pub returns-then-rest-ne0-clause-some : goal.returns-then-rest-ne0-clause-some
returns-then-rest-ne0-clause-some c =
    let next = next-behind-mask c.args.words.now c.args.from (c.type_inv.words (c.args.from / 64)).fits c.if-rest-ne0.true in
    (next.behind, next.set, next.clear)

pub loop-number-init : goal.loop-number-init
loop-number-init c =
    zeros-are-clear c.args.words.now c.args.from (c.args.from / 64 + 1) c.pass_zeros-number.result
    (clear-behind-mask c.args.words.now c.args.from c.if-rest-ne0.false) c.pass_zeros-number.ensures.zeros

pub returns-then-word-ne0-clause-some : goal.returns-then-word-ne0-clause-some
returns-then-word-ne0-clause-some c =
    let behind : c.args.from ≤ 64 * c.loop-number.number = omega arith in
    let next = next-in-word c.args.words.now c.args.from c.loop-number.number behind c.loop-number.invariant c.if-word-ne0.true
    (c.type_inv.words c.loop-number.number).fits in
    (next.behind, next.set, next.clear)
