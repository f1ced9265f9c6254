use Rattle.std.proofs.Common.{sym, ◌∙◌}
use Rattle.dist_lanes.proofs.RowLemmas.{room, value-is}
use Rattle.dist_lanes.proofs.row.Row.get.Goals as goal

pub bit-requires : goal.bit-requires
bit-requires c =
    room c.self.inside.words.items c.deref.result.now c.self.inside.places c.args.self.now c.args.place
    c.self.invariant c.self.view_is c.deref.ensures.value c.requires

pub returns : goal.returns
returns c =
    c.bit.ensures ∙ sym (value-is c.self.inside.words.items c.deref.result.now c.self.inside.places c.args.self.now c.args.place
    c.self.invariant c.self.view_is c.deref.ensures.value)
