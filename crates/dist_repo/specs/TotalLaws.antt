-- The order of packages is total.
use Rattle.std.specs.Prelude.{ℕ, List}
use Rattle.std.specs.Cmp.{IsTotalOrder}
use Rattle.std.proofs.lemmas.Cmp.{nat_list_cmp_total, on_total, then_total}
use Rattle.dist_version.specs.OrderLaws.{version_total}
use Rattle.dist_repo.specs.Order.{key_cmp, package_cmp}
use Rattle.dist_repo.specs.declared.package.Package.{Package}

pub key_total : IsTotalOrder key_cmp
key_total = then_total (on_total (λ (a : List ℕ × List ℕ). a.0) nat_list_cmp_total)
    (on_total (λ (a : List ℕ × List ℕ). a.1) version_total)

pub package_total : IsTotalOrder package_cmp
package_total = on_total (λ (p : Package). (p.name, p.version)) key_total
