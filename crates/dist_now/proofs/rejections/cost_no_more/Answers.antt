use Rattle.std.proofs.Common.{get_or, arith}
use Rattle.dist_base.specs.ListLaws.{within-from}
use Rattle.dist_repo.specs.Providers.{IsProvider}
use Rattle.dist_now.proofs.NumberLemmas.{provider-at}
use Rattle.dist_now.proofs.rejections.cost_no_more.Goals as goal

pub package-requires : goal.package-requires
package-requires c =
    let r = c.args.repo.now in
    let providers = c.args.providers.now in
    let short = c.loop-place-test.true in
    within-from (IsProvider r.architecture c.args.atom.now.name) r.packages (get_or providers c.loop-place.place 0)
    (provider-at r c.args.atom.now.name providers c.loop-place.place c.requires.providers (omega (arith, short, c.requires.to)))
