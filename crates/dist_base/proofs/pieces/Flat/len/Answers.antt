use Rattle.std.proofs.Common.{◌≡◌, length, subst, arith}
use Rattle.dist_base.proofs.PieceLemmas.{length-pieces}
use Rattle.dist_base.proofs.pieces.Flat.len.Goals as goal

pub returns : goal.returns
returns g c =
    let count = length-pieces 0 c.self.inside.ends.items c.self.inside.items.items in
    subst (λ lists. c.len.result ≡ length lists) c.self.view_is (omega (arith, c.self.inside.ends.ok.0))
