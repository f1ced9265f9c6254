use Rattle.std.proofs.Common.{ℕ, List, length, sym, subst}
use Rattle.dist_repo.specs.Order.{IsInOrder}
use Rattle.dist_repo.specs.OwnPrivate.{AreCounted, AreNumbersNamed}
use Rattle.dist_repo.specs.PackageList.{PackageList}
use Rattle.dist_repo.specs.Providers.{AreProviders}
use Rattle.dist_repo.specs.declared.package.Package.{Package}
use Rattle.dist_repo.proofs.IndexLemmas.{provided-at}
use Rattle.dist_repo.proofs.OfferLemmas.{providers-own}
use Rattle.dist_repo.proofs.repository.Repository.providers.Goals as goal

pub returns-in-Some : goal.returns-in-Some
returns-in-Some c =
    let index = c.self.inside.index in
    let Provided : PackageList → Type 0 = λ r. AreProviders r c.args.name.now c.get.result.now in
    subst Provided c.self.view_is (provided-at _ index.names index.numbers index.offers c.in-Some.place c.args.name.now
    c.self.invariant.index c.in-Some.ensures c.get.result.now c.get.ensures)

pub numbers_named-requires-clause-in_order : goal.numbers_named-requires-clause-in_order
numbers_named-requires-clause-in_order c =
    let Ordered : List Package → Type 0 = IsInOrder in
    subst Ordered (sym c.deref.ensures.value) c.self.invariant.in_order

pub numbers_named-requires-clause-numbers : goal.numbers_named-requires-clause-numbers
numbers_named-requires-clause-numbers c =
    let Count : List Package → Type 0 = λ packages. AreCounted (length packages) c.deref-in-None.result.now in
    let Counted : List ℕ → Type 0 = λ numbers. AreCounted (length c.self.inside.packages.items) numbers in
    subst Count (sym c.deref.ensures.value) (subst Counted (sym c.deref-in-None.ensures.value) c.self.invariant.counted)

pub returns-in-None : goal.returns-in-None
returns-in-None c =
    let inside : PackageList = record { architecture = c.self.inside.architecture; packages = c.self.inside.packages.items } in
    let name = c.args.name.now in
    let numbers = c.numbers_named.result.now in
    let Provided : PackageList → Type 0 = λ r. AreProviders r name numbers in
    let Named : List Package → Type 0 = λ packages. AreNumbersNamed packages name numbers in
    subst Provided c.self.view_is (providers-own inside name (c.self.invariant.index.others name c.in-None.ensures) numbers
    (subst Named c.deref.ensures.value c.numbers_named.ensures))
