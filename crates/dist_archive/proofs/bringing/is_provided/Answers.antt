use Rattle.std.proofs.Common.{◌↔◌, Bool, subst, sym}
use Rattle.std.specs.Prelude.{IsTrue}
use Rattle.dist_future.specs.Future.{IsProvided}
use Rattle.dist_archive.proofs.NameLemmas.{provided-some}
use Rattle.dist_archive.proofs.bringing.is_provided.Goals as goal

pub returns : goal.returns
returns c =
    subst (λ (b : Bool). IsTrue b ↔ IsProvided c.args.repo.now c.args.name.now) (sym c.is_some.ensures)
    (provided-some c.args.repo.now c.args.name.now c.providers.result.now c.first.result c.providers.ensures c.requires c.first.ensures.value)
