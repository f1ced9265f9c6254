use Rattle.std.proofs.Common.{length, ap, arith}
use Rattle.dist_base.proofs.PieceLemmas.{length-pieces}
use Rattle.dist_base.proofs.pieces.Flat.get.Goals as goal

pub list_at-requires-clause-place : goal.list_at-requires-clause-place
list_at-requires-clause-place g c =
    let count = ap length c.self.view_is in
    omega (arith, length-pieces 0 c.self.inside.ends.items c.self.inside.items.items, ap length c.deref-2.ensures.value)
