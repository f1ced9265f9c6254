use Rattle.dist_derive.proofs.WatchLemmas.{out_pending, out_watches}
use Rattle.dist_derive.proofs.watches.Watches.pass.Goals as goal

pub returns-else-is_by-clause-watches : goal.returns-else-is_by-clause-watches
returns-else-is_by-clause-watches c = out_watches c.args.self.now c.take_out.new.self c.args.literal c.args.place c.args.number c.requires.within
    c.requires.number c.take_out.ensures.same_pairs c.take_out.ensures.other_lists c.take_out.ensures.list (c.is_by.ensures.no c.if-is_by.false)

pub returns-else-is_by-clause-pending : goal.returns-else-is_by-clause-pending
returns-else-is_by-clause-pending c = out_pending c.args.self.now c.take_out.new.self c.args.literal c.args.place c.args.number c.requires.within
    c.requires.number c.take_out.ensures.same_pairs c.take_out.ensures.other_lists c.take_out.ensures.list
