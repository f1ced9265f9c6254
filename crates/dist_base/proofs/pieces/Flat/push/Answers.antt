use Rattle.dist_base.proofs.PieceLemmas.{AreEnds-after, pieces-after_ok, pieces-after_err}
use Rattle.dist_base.proofs.pieces.Flat.push.Goals as goal

pub invariant_of-self : goal.invariant_of-self
invariant_of-self g c =
    AreEnds-after c.add_list.result c.self.inside.items.items c.self.inside.ends.items c.args.list.now c.add_list.new.items.items c.add_list.new.ends.items
    c.self.invariant
    c.add_list.ensures.ok c.add_list.ensures.err_items c.add_list.ensures.err_ends

pub returns : goal.returns
returns g c = record {
  ok = pieces-after_ok c.add_list.result c.self.inside.items.items c.self.inside.ends.items c.args.list.now c.add_list.new.items.items c.add_list.new.ends.items
      c.self.invariant
      c.add_list.ensures.ok c.args.self.now c.self.view_is;
  err = pieces-after_err c.add_list.result c.self.inside.items.items c.self.inside.ends.items c.add_list.new.items.items c.add_list.new.ends.items
      c.add_list.ensures.err_items c.add_list.ensures.err_ends c.args.self.now c.self.view_is;
}
