use Rattle.std.proofs.Common.{arith}
use Rattle.std.proofs.lemmas.Result.{err_from_is_err_and}
use Rattle.dist_space_clauses.proofs.LedFronts.{later-end, later-start, later-steps}
use Rattle.dist_space_clauses.proofs.led_clauses.push_later.Goals as goal

pub loop-later-init : goal.loop-later-init
loop-later-init c = later-start c.args.space.now c.args.set.now c.args.set.now c.args.classed c.args.variable c.args.number c.args.class c.requires.meaning
    c.requires.front

pub add_pair-requires : goal.add_pair-requires
add_pair-requires c =
    (later-steps c.args.space.now c.args.set.now c.loop-later.set c.args.classed c.args.variable c.args.number c.args.class c.loop-later.later
    c.variable-other.result c.new.result c.new-in-loop-later.result c.requires.meaning (omega arith) (omega arith) c.new.ensures c.new-in-loop-later.ensures
    c.variable-other.ensures.value c.loop-later.invariant).over

pub returns-in_err-add_pair-clause-err : goal.returns-in_err-add_pair-clause-err
returns-in_err-add_pair-clause-err c =
    let p = err_from_is_err_and c.from_residual.result c.from_residual.ensures.1 in
    rw (p.1, p.2)
    ((later-steps c.args.space.now c.args.set.now c.loop-later.set c.args.classed c.args.variable c.args.number c.args.class c.loop-later.later
    c.variable-other.result c.new.result c.new-in-loop-later.result c.requires.meaning (omega arith) (omega arith) c.new.ensures c.new-in-loop-later.ensures
    c.variable-other.ensures.value c.loop-later.invariant).stops _ c.in_err-add_pair.ensures.err)

pub loop-later-preserved : goal.loop-later-preserved
loop-later-preserved c =
    (later-steps c.args.space.now c.args.set.now c.loop-later.set c.args.classed c.args.variable c.args.number c.args.class c.loop-later.later
    c.variable-other.result c.new.result c.new-in-loop-later.result c.requires.meaning (omega arith) (omega arith) c.new.ensures c.new-in-loop-later.ensures
    c.variable-other.ensures.value c.loop-later.invariant).more c.add_pair.new.set c.in_ok-add_pair.ensures.ok

pub returns-clause-ok : goal.returns-clause-ok
returns-clause-ok c = later-end c.args.space.now c.args.set.now c.loop-later.set c.args.classed c.args.variable c.args.number c.args.class c.loop-later.later
    c.requires.meaning (omega arith) c.loop-later.invariant
