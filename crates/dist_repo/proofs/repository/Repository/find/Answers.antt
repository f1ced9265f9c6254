use Rattle.std.proofs.Common.{ℕ, List, Ordering, Result, ◌↔◌, ◌≡◌, Some, rules, sym, subst, ap, ◌∙◌}
use Rattle.std.specs.Result.{result_ok}
use Rattle.std.proofs.lemmas.Fn.{always_returns_same}
use Rattle.dist_repo.specs.Order.{key_cmp, IsInOrder}
use Rattle.dist_repo.specs.Providers.{IsPackageAt}
use Rattle.dist_repo.specs.PackageList.{PackageList}
use Rattle.dist_repo.specs.declared.package.Package.{Package}
use Rattle.dist_repo.proofs.OrderLemmas.{searched-package}
use Rattle.dist_repo.proofs.repository.Repository.find.Goals as goal

pub returns-in-Ok : goal.returns-in-Ok
returns-in-Ok c =
    let by_key : Package → Ordering = λ p. key_cmp (p.name, p.version) (c.args.name.now, c.args.version.now) in
    let Ordered : List Package → Type 0 = IsInOrder in
    let Finds : List Package → Type 0 = λ packages. (number : ℕ) → (result_ok c.binary_search_by.result ≡ Some number)
    ↔ IsPackageAt packages number c.args.name.now c.args.version.now in
    let Answers : Result ℕ ℕ → Type 0 = λ found. (number : ℕ) → (result_ok found ≡ Some number)
    ↔ IsPackageAt c.args.self.now.packages number c.args.name.now c.args.version.now in
    let packages_is = c.as_slice.ensures.value ∙ ap (λ (r : PackageList). r.packages) c.self.view_is in
    subst Answers c.in-Ok.is (subst Finds packages_is
    (searched-package c.as_slice.result.now c.args.name.now c.args.version.now c.binary_search_by.result
    (subst Ordered (sym c.as_slice.ensures.value) c.self.invariant.in_order)
    c.binary_search_by.ensures.bound (c.binary_search_by.ensures.position by_key (always_returns_same _ _ _ (λ a r g h. search rules)))))

pub returns-in-Err : goal.returns-in-Err
returns-in-Err c =
    let by_key : Package → Ordering = λ p. key_cmp (p.name, p.version) (c.args.name.now, c.args.version.now) in
    let Ordered : List Package → Type 0 = IsInOrder in
    let Finds : List Package → Type 0 = λ packages. (number : ℕ) → (result_ok c.binary_search_by.result ≡ Some number)
    ↔ IsPackageAt packages number c.args.name.now c.args.version.now in
    let Answers : Result ℕ ℕ → Type 0 = λ found. (number : ℕ) → (result_ok found ≡ Some number)
    ↔ IsPackageAt c.args.self.now.packages number c.args.name.now c.args.version.now in
    let packages_is = c.as_slice.ensures.value ∙ ap (λ (r : PackageList). r.packages) c.self.view_is in
    subst Answers c.in-Err.is (subst Finds packages_is
    (searched-package c.as_slice.result.now c.args.name.now c.args.version.now c.binary_search_by.result
    (subst Ordered (sym c.as_slice.ensures.value) c.self.invariant.in_order)
    c.binary_search_by.ensures.bound (c.binary_search_by.ensures.position by_key (always_returns_same _ _ _ (λ a r g h. search rules)))))
