use Rattle.std.proofs.lemmas.Result.{IfErr-weaker, on_ok_weaker}
use Rattle.dist_space_clauses.proofs.LedFronts.{today-end, today-steps}
use Rattle.dist_space_clauses.proofs.led_clauses.push_no_change.Goals as goal

pub add_pair-requires : goal.add_pair-requires
add_pair-requires c =
    (today-steps c.args.space.now c.args.set.now c.args.set.now c.args.variable c.variable-now.result c.args.change c.new.result c.new-2.result
    c.requires.change c.requires.meaning c.new.ensures c.variable-now.ensures.value c.new-2.ensures c.requires.front).over

pub returns-clause-ok : goal.returns-clause-ok
returns-clause-ok c =
    on_ok_weaker c.add_pair.result (λ is. today-end c.args.space.now c.args.set.now c.add_pair.new.set c.args.variable c.args.change c.requires.meaning
    ((today-steps c.args.space.now c.args.set.now c.args.set.now c.args.variable c.variable-now.result c.args.change c.new.result c.new-2.result
    c.requires.change c.requires.meaning c.new.ensures c.variable-now.ensures.value c.new-2.ensures c.requires.front).more c.add_pair.new.set is))
    c.add_pair.ensures.ok

pub returns-clause-err : goal.returns-clause-err
returns-clause-err c =
    IfErr-weaker c.add_pair.result _ _
    (today-steps c.args.space.now c.args.set.now c.args.set.now c.args.variable c.variable-now.result c.args.change c.new.result c.new-2.result
    c.requires.change c.requires.meaning c.new.ensures c.variable-now.ensures.value c.new-2.ensures c.requires.front).stops c.add_pair.ensures.err
