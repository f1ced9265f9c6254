use Rattle.std.proofs.Common.{arith}
use Rattle.dist_explain.proofs.RelationLists.{all-items}
use Rattle.dist_explain.proofs.relations.add_items.Goals as goal

pub returns : goal.returns
returns c = all-items c.args.repo.now c.loop-number.number c.loop-number.list.items
    (let e = c.len-number-end.ensures.value in omega (arith, e, c.loop-number-test.false)) c.loop-number.invariant
