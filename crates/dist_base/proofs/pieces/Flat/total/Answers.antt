use Rattle.std.proofs.Common.{◌≡◌, subst, arith}
use Rattle.dist_base.specs.Pieces.{total}
use Rattle.dist_base.proofs.PieceLemmas.{total-pieces}
use Rattle.dist_base.proofs.pieces.Flat.total.Goals as goal

pub returns : goal.returns
returns g c =
    let count = total-pieces 0 c.self.inside.ends.items c.self.inside.items.items c.self.invariant in
    subst (λ lists. c.len.result ≡ total lists) c.self.view_is (omega (arith, c.self.inside.items.ok.0))
