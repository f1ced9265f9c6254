use Rattle.std.proofs.Common.{ap, sym, ◌∙◌, ◌≤◌, length, drop, subst, arith}
use Rattle.dist_cert.proofs.Filling.{skipped}
use Rattle.dist_cert.proofs.pieces.Piece.skip.Goals as goal

pub returns : goal.returns
returns c =
    skipped c.self.inside.bytes.items c.self.inside.start c.args.count c.self.inside.end c.self.invariant.0
    (omega (arith, c.self.invariant.1, c.self.inside.bytes.ok.0))
    (subst (λ view. c.args.count ≤ length view) (sym c.self.view_is) c.requires) ∙ ap (drop c.args.count) (c.self.view_is)
