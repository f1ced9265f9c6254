use Rattle.std.proofs.Common.{◌↔◌, List, length, sym, subst}
use Rattle.std.specs.Prelude.{Contains}
use Rattle.dist_repo.specs.Offers.{AreInVersionOrder, AreOffers, IsOwnOffer}
use Rattle.dist_repo.specs.Order.{IsInOrder}
use Rattle.dist_repo.specs.OwnPrivate.{AreOwn}
use Rattle.dist_repo.specs.PackageList.{PackageList}
use Rattle.dist_repo.specs.declared.offers.Offer.{Offer}
use Rattle.dist_repo.specs.declared.package.Package.{Package}
use Rattle.dist_repo.proofs.IndexLemmas.{offered-at}
use Rattle.dist_repo.proofs.OfferLemmas.{offers-own}
use Rattle.dist_repo.proofs.repository.Repository.offers.Goals as goal

pub returns-in-Some : goal.returns-in-Some
returns-in-Some c =
    let index = c.self.inside.index in
    let Offered : PackageList → Type 0 = λ r. AreOffers r c.args.name.now c.get.result.now in
    subst Offered c.self.view_is (offered-at _ index.names index.numbers index.offers c.in-Some.place c.args.name.now
    c.self.invariant.index c.in-Some.ensures c.get.result.now c.get.ensures)

pub offers_named-requires-clause-in_order : goal.offers_named-requires-clause-in_order
offers_named-requires-clause-in_order c =
    let Ordered : List Package → Type 0 = IsInOrder in
    subst Ordered (sym c.deref.ensures.value) c.self.invariant.in_order

pub offers_named-requires-clause-offers : goal.offers_named-requires-clause-offers
offers_named-requires-clause-offers c =
    let Count : List Package → Type 0 = λ packages. AreOwn packages (length packages) c.deref-in-None.result.now in
    let Own : List Offer → Type 0 = λ offers. AreOwn c.self.inside.packages.items (length c.self.inside.packages.items) offers in
    subst Count (sym c.deref.ensures.value) (subst Own (sym c.deref-in-None.ensures.value) c.self.invariant.own)

pub returns-in-None : goal.returns-in-None
returns-in-None c =
    let inside : PackageList = record { architecture = c.self.inside.architecture; packages = c.self.inside.packages.items } in
    let name = c.args.name.now in
    let offers = c.offers_named.result.now in
    let Offered : PackageList → Type 0 = λ r. AreOffers r name offers in
    let Exact : List Package → Type 0 = λ packages. (offer : Offer) → Contains offers offer ↔ IsOwnOffer packages name offer in
    let InOrder : List Package → Type 0 = λ packages. AreInVersionOrder packages offers in
    subst Offered c.self.view_is (offers-own inside name (c.self.invariant.index.others name c.in-None.ensures) offers
    (subst Exact c.deref.ensures.value c.offers_named.ensures.exact) (subst InOrder c.deref.ensures.value c.offers_named.ensures.in_order))
