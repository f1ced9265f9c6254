use Rattle.std.proofs.Common.{◌≡◌, ℕ, Some, List, length, arith, sym, ap, subst, ◌∙◌}
use Rattle.std.proofs.lemmas.Result.{IfOk-weaker}
use Rattle.dist_repo.specs.LatestPrivate.{last_of_names}
use Rattle.dist_repo.specs.Order.{IsInOrder, IsLatestOf}
use Rattle.dist_repo.specs.PackageList.{PackageList}
use Rattle.dist_repo.specs.declared.package.Package.{Package}
use Rattle.dist_repo.proofs.NewestLemmas.{in_order-kept, is-latest, short-kept}
use Rattle.dist_repo.proofs.repository.Repository.latest.Goals.{in-Some+in_ok-try_clone-in-Some, in-None}
use Rattle.dist_repo.proofs.repository.Repository.latest.Goals as goal

pub from_packages-requires-clause-in_order : goal.from_packages-requires-clause-in_order
from_packages-requires-clause-in_order c =
    let Ordered : List Package → Type 0 = IsInOrder in
    let newest = rw c.in_ok-both.ensures.second at c.newest_of.ensures in
    subst Ordered (sym (newest ∙ ap last_of_names c.deref.ensures.value))
    (in_order-kept c.self.inside.packages.items c.self.invariant.in_order)

pub from_packages-requires-clause-few : goal.from_packages-requires-clause-few
from_packages-requires-clause-few c =
    let newest = rw c.in_ok-both.ensures.second at c.newest_of.ensures in
    let kept = newest ∙ ap last_of_names c.deref.ensures.value in
    omega (arith, ap (λ (list : List Package). length list) kept, short-kept c.self.inside.packages.items, c.self.invariant.few)

pub returns : goal.returns
returns c =
    let inside : PackageList = record { architecture = c.self.inside.architecture; packages = c.self.inside.packages.items } in
    let newest = rw c.in_ok-both.ensures.second at c.newest_of.ensures in
    let packages : c.in_ok-both.both.second.items ≡ last_of_names inside.packages = newest ∙ ap last_of_names c.deref.ensures.value in
    let architecture : c.in_ok-both.both.first ≡ inside.architecture = c.in_ok-both.ensures.first ∙ elim c.match-self.branch [
      | in-Some+in_ok-try_clone-in-Some w ↦
          let same = w.in_ok-try_clone-in-Some.ensures in
          w.architecture-is ∙ ap (λ (name : List ℕ). Some name) same ∙ sym w.in-Some.is
      | in-None w ↦ w.architecture-is ∙ sym w.in-None.is
    ] in
    IfOk-weaker c.from_packages.result _ (IsLatestOf c.args.self.now)
    (λ latest is.
    let made : latest ≡ record { architecture = inside.architecture; packages = last_of_names inside.packages } = is
    ∙ (λ i. record { architecture = architecture i; packages = packages i }) in
    let Of : PackageList → Type 0 = IsLatestOf inside in
    let From : PackageList → Type 0 = λ r. IsLatestOf r latest in
    subst From c.self.view_is (subst Of (sym made) (is-latest inside c.self.invariant.in_order))) c.from_packages.ensures
