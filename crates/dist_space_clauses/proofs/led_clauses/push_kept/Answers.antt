use Rattle.std.proofs.lemmas.Result.{IfErr-weaker, on_ok_weaker}
use Rattle.dist_space_clauses.proofs.LedFronts.{carried-end, carried-steps}
use Rattle.dist_space_clauses.proofs.led_clauses.push_kept.Goals as goal

pub add_pair-requires : goal.add_pair-requires
add_pair-requires c =
    (carried-steps c.args.space.now c.args.set.now c.args.set.now c.args.variable c.args.member c.args.class c.new.result c.new-2.result c.args.entry
    c.variable-new.result c.requires.meaning c.new.ensures c.new-2.ensures c.variable-new.ensures.value c.requires.front).over

pub returns-clause-ok : goal.returns-clause-ok
returns-clause-ok c =
    on_ok_weaker c.add_pair.result (λ is. carried-end c.args.space.now c.args.set.now c.add_pair.new.set c.args.variable c.args.member c.args.class c.args.entry
    c.requires.meaning
    ((carried-steps c.args.space.now c.args.set.now c.args.set.now c.args.variable c.args.member c.args.class c.new.result c.new-2.result c.args.entry
    c.variable-new.result c.requires.meaning c.new.ensures c.new-2.ensures c.variable-new.ensures.value c.requires.front).more c.add_pair.new.set is))
    c.add_pair.ensures.ok

pub returns-clause-err : goal.returns-clause-err
returns-clause-err c =
    IfErr-weaker c.add_pair.result _ _
    (carried-steps c.args.space.now c.args.set.now c.args.set.now c.args.variable c.args.member c.args.class c.new.result c.new-2.result c.args.entry
    c.variable-new.result c.requires.meaning c.new.ensures c.new-2.ensures c.variable-new.ensures.value c.requires.front).stops c.add_pair.ensures.err
