use Rattle.std.proofs.Common.{arith}
use Rattle.std.proofs.lemmas.Result.{err_from_is_err_and}
use Rattle.dist_space_clauses.proofs.GroupFronts.{next-range, next-steps, pair-further, pairs-end, pairs-start}
use Rattle.dist_space_clauses.proofs.conflicts.push_pairs.Goals as goal

pub loop-other-init : goal.loop-other-init
loop-other-init c = pairs-start c.args.space.now c.args.set.now c.args.number c.args.others.now c.args.set.now c.requires.front

pub new-requires-in-loop-other-clause-from_one : goal.new-requires-in-loop-other-clause-from_one
new-requires-in-loop-other-clause-from_one c =
    (next-range c.args.space.now c.keeps_invariant.ensures.space c.args.set.now c.args.number c.requires.number c.args.others.now c.requires.others
    c.loop-other.other-index c.loop-other-test.true).0

pub new-requires-in-loop-other-clause-to_limit : goal.new-requires-in-loop-other-clause-to_limit
new-requires-in-loop-other-clause-to_limit c =
    let range = next-range c.args.space.now c.keeps_invariant.ensures.space c.args.set.now c.args.number c.requires.number c.args.others.now
    c.requires.others c.loop-other.other-index c.loop-other-test.true in
    omega (arith, range.1, c.keeps_invariant.ensures.variables)

pub add_pair-requires : goal.add_pair-requires
add_pair-requires c =
    (next-steps c.args.space.now c.keeps_invariant.ensures.space c.args.set.now c.args.number c.requires.number c.args.others.now c.requires.others
    c.loop-other.other-index c.variable-variable.result c.loop-other.set c.new.result c.new-in-loop-other.result c.loop-other-test.true c.new.ensures
    c.variable-variable.ensures.value c.new-in-loop-other.ensures c.loop-other.invariant).over

pub returns-in_err-add_pair-clause-err : goal.returns-in_err-add_pair-clause-err
returns-in_err-add_pair-clause-err c =
    let p = err_from_is_err_and c.from_residual.result c.from_residual.ensures.1 in
    rw (p.1, p.2)
    ((next-steps c.args.space.now c.keeps_invariant.ensures.space c.args.set.now c.args.number c.requires.number c.args.others.now c.requires.others
    c.loop-other.other-index c.variable-variable.result c.loop-other.set c.new.result c.new-in-loop-other.result c.loop-other-test.true c.new.ensures
    c.variable-variable.ensures.value c.new-in-loop-other.ensures c.loop-other.invariant).stops _ c.in_err-add_pair.ensures.err)

pub loop-other-preserved : goal.loop-other-preserved
loop-other-preserved c =
    pair-further c.args.space.now c.keeps_invariant.ensures.space c.args.set.now c.args.number c.requires.number c.args.others.now c.requires.others
    c.loop-other.other-index c.add_pair.new.set c.loop-other-test.true
    ((next-steps c.args.space.now c.keeps_invariant.ensures.space c.args.set.now c.args.number c.requires.number c.args.others.now c.requires.others
    c.loop-other.other-index c.variable-variable.result c.loop-other.set c.new.result c.new-in-loop-other.result c.loop-other-test.true c.new.ensures
    c.variable-variable.ensures.value c.new-in-loop-other.ensures c.loop-other.invariant).more c.add_pair.new.set c.in_ok-add_pair.ensures.ok)

pub returns-clause-ok : goal.returns-clause-ok
returns-clause-ok c =
    pairs-end c.args.space.now c.keeps_invariant.ensures.space c.args.set.now c.args.number c.requires.number c.args.others.now c.requires.others
    c.loop-other.other-index c.loop-other.set (omega (arith, c.loop-other-test.false)) c.loop-other.invariant
