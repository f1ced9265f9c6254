use Rattle.std.proofs.lemmas.Result.{IfErr-weaker, err_from_is_err_and, on_ok_weaker}
use Rattle.dist_space_clauses.proofs.LedFronts.{gone-steps, moved-steps, moves-end}
use Rattle.dist_space_clauses.proofs.led_clauses.push_new.Goals as goal

pub add_pair-requires : goal.add_pair-requires
add_pair-requires c =
    (gone-steps c.args.space.now c.args.set.now c.args.set.now c.args.variable c.args.member c.args.class c.new.result c.new-2.result c.variable-present.result
    c.cluster_of.result c.variable-at.result c.requires.meaning c.new.ensures c.variable-present.ensures.value c.new-2.ensures c.cluster_of.ensures
    c.variable-at.ensures.value c.requires.front).over

pub returns-in_err-add_pair-clause-err : goal.returns-in_err-add_pair-clause-err
returns-in_err-add_pair-clause-err c =
    let p = err_from_is_err_and c.from_residual.result c.from_residual.ensures.1 in
    rw (p.1, p.2)
    ((gone-steps c.args.space.now c.args.set.now c.args.set.now c.args.variable c.args.member c.args.class c.new.result c.new-2.result c.variable-present.result
    c.cluster_of.result c.variable-at.result c.requires.meaning c.new.ensures c.variable-present.ensures.value c.new-2.ensures c.cluster_of.ensures
    c.variable-at.ensures.value c.requires.front).stops _ c.in_err-add_pair.ensures.err)

pub add_pair-requires-2 : goal.add_pair-requires-2
add_pair-requires-2 c =
    (moved-steps c.args.space.now c.args.set.now c.add_pair.new.set c.args.variable c.args.member c.args.class c.new-3.result c.new-4.result
    c.cluster_of.result c.variable-at.result c.requires.meaning c.new-3.ensures c.new-4.ensures c.cluster_of.ensures c.variable-at.ensures.value
    ((gone-steps c.args.space.now c.args.set.now c.args.set.now c.args.variable c.args.member c.args.class c.new.result c.new-2.result c.variable-present.result
    c.cluster_of.result c.variable-at.result c.requires.meaning c.new.ensures c.variable-present.ensures.value c.new-2.ensures c.cluster_of.ensures
    c.variable-at.ensures.value c.requires.front).more c.add_pair.new.set c.in_ok-add_pair.ensures.ok)).over

pub returns-clause-ok : goal.returns-clause-ok
returns-clause-ok c =
    on_ok_weaker c.add_pair-2.result (λ is. moves-end c.args.space.now c.args.set.now c.add_pair-2.new.set c.args.variable c.args.member c.args.class
    c.requires.meaning
    ((moved-steps c.args.space.now c.args.set.now c.add_pair.new.set c.args.variable c.args.member c.args.class c.new-3.result c.new-4.result
    c.cluster_of.result c.variable-at.result c.requires.meaning c.new-3.ensures c.new-4.ensures c.cluster_of.ensures c.variable-at.ensures.value
    ((gone-steps c.args.space.now c.args.set.now c.args.set.now c.args.variable c.args.member c.args.class c.new.result c.new-2.result c.variable-present.result
    c.cluster_of.result c.variable-at.result c.requires.meaning c.new.ensures c.variable-present.ensures.value c.new-2.ensures c.cluster_of.ensures
    c.variable-at.ensures.value c.requires.front).more c.add_pair.new.set c.in_ok-add_pair.ensures.ok)).more c.add_pair-2.new.set is)) c.add_pair-2.ensures.ok

pub returns-clause-err : goal.returns-clause-err
returns-clause-err c =
    IfErr-weaker c.add_pair-2.result _ _
    (moved-steps c.args.space.now c.args.set.now c.add_pair.new.set c.args.variable c.args.member c.args.class c.new-3.result c.new-4.result
    c.cluster_of.result c.variable-at.result c.requires.meaning c.new-3.ensures c.new-4.ensures c.cluster_of.ensures c.variable-at.ensures.value
    ((gone-steps c.args.space.now c.args.set.now c.args.set.now c.args.variable c.args.member c.args.class c.new.result c.new-2.result c.variable-present.result
    c.cluster_of.result c.variable-at.result c.requires.meaning c.new.ensures c.variable-present.ensures.value c.new-2.ensures c.cluster_of.ensures
    c.variable-at.ensures.value c.requires.front).more c.add_pair.new.set c.in_ok-add_pair.ensures.ok)).stops c.add_pair-2.ensures.err
