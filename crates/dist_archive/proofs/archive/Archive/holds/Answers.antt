use Rattle.std.proofs.Common.{◌↔◌, Bool, subst, sym}
use Rattle.std.specs.Prelude.{IsTrue}
use Rattle.dist_archive.specs.Steps.{IsHeld}
use Rattle.dist_archive.proofs.NameLemmas.{held-some}
use Rattle.dist_archive.proofs.archive.Archive.holds.Goals as goal

pub returns : goal.returns
returns c =
    subst (λ (b : Bool). IsTrue b ↔ IsHeld c.args.self.now.packages c.args.name.now) (sym c.is_some.ensures)
    (held-some c.args.self.now.packages c.args.name.now c.held.result c.held.ensures)
