use Rattle.std.proofs.Common.{◌≡◌, ◌↔◌, subst}
use Rattle.std.specs.Prelude.{IsTrue}
use Rattle.dist_base.specs.ListLaws.{same-at}
use Rattle.dist_version.specs.Order.{version_cmp}
use Rattle.std.specs.declared.cmp.Ordering.TheVariants.{Equal}
use Rattle.dist_repo.specs.declared.package.Package.{Package}
use Rattle.dist_archive.proofs.OrderLemmas.{equal-test}
use Rattle.dist_archive.proofs.fitting.are_level.Goals as goal

pub returns : goal.returns
returns c = λ n m is_n is_m.
    let test = equal-test c.is_eq.result c.compare.result (version_cmp c.package.result.now.version c.package-2.result.now.version) c.is_eq.ensures
    c.compare.ensures in
    let first = same-at c.args.later.now.packages c.args.place c.package.result.now n c.package.ensures is_n in
    let second = same-at c.args.later.now.packages c.args.first c.package-2.result.now m c.package-2.ensures is_m in
    subst (λ (x : Package). IsTrue c.is_eq.result ↔ (version_cmp n.version x.version ≡ Equal)) second
    (subst (λ (x : Package). IsTrue c.is_eq.result ↔ (version_cmp x.version c.package-2.result.now.version ≡ Equal)) first test)
