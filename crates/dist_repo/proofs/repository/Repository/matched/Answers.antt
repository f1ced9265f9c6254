use Rattle.std.proofs.Common.{◌↔◌, List, ℕ, ap, sym, subst, ◌∙◌}
use Rattle.std.specs.Prelude.{Contains}
use Rattle.std.proofs.lemmas.Bool.{false≢true}
use Rattle.dist_repo.specs.Offers.{version_of, AreInVersionOrder, AreOffers, Meets}
use Rattle.dist_repo.specs.PackageList.{PackageList}
use Rattle.dist_repo.specs.declared.offers.Offer.{Offer}
use Rattle.dist_repo.specs.declared.package.Package.{Package}
use Rattle.dist_repo.proofs.OfferLemmas.{matched-from, matched-never}
use Rattle.dist_repo.proofs.repository.Repository.matched.Goals as goal

pub returns-then-not-usable : goal.returns-then-not-usable
returns-then-not-usable c = matched-never c.args.self.now c.args.atom.now (λ usable. false≢true (sym c.if-not-usable.true ∙ c.usable.ensures.1 usable))

pub meeting-requires : goal.meeting-requires
meeting-requires c =
    let InOrder : List Package → Type 0 = λ packages. AreInVersionOrder packages c.offers.result.now in
    subst InOrder (sym (c.deref.ensures.value ∙ ap (λ (r : PackageList). r.packages) c.self.view_is)) c.offers.ensures.in_order

pub returns : goal.returns
returns c =
    let atom = c.args.atom.now in
    let offers = c.offers.result.now in
    let Named : List ℕ → Type 0 = λ name. AreOffers c.args.self.now name offers in
    let Iff : List Package → Type 0 = λ packages. (offer : Offer) → Contains c.meeting.result.now offer
    ↔ (Contains offers offer × Meets (version_of packages offer) atom.bound) in
    matched-from c.args.self.now atom offers c.meeting.result.now (c.usable.ensures.0 c.if-not-usable.false)
    (subst Named c.bytes.ensures.value c.offers.ensures)
    (subst Iff (c.deref.ensures.value ∙ ap (λ (r : PackageList). r.packages) c.self.view_is) c.meeting.ensures)
