use Rattle.std.proofs.Common.{take}
use Rattle.dist_derive.proofs.ReachLemmas.{Reaches-then}
use Rattle.dist_derive.proofs.log.Log.take_some.Goals as goal

pub loop-done-preserved : goal.loop-done-preserved
loop-done-preserved c = Reaches-then (take c.args.inputs c.args.self.now.clauses) c.args.cone.now c.loop-done.cone c.close_list.new.cone
    c.loop-done.invariant c.close_list.ensures.reaches
