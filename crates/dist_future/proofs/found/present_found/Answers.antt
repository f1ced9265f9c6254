use Rattle.std.proofs.Common.{◌≡◌, ℕ, ◌+◌, List, get_or, Option, subst, sym, refl}
use Rattle.std.proofs.lemmas.Bool.{false≢true}
use Rattle.std.proofs.lemmas.Option.{slice_get-get_or}
use Rattle.dist_base.specs.Least.{IsLeastIfAny}
use Rattle.dist_base.specs.ListLaws.{any-at}
use Rattle.dist_repo.specs.declared.offers.Offer.{Offer}
use Rattle.dist_future.proofs.FoundLemmas.{OfferedAt, none-left, offered-all, present-one}
use Rattle.dist_future.proofs.Leasts.{Before, least-more, least-skip}
use Rattle.dist_future.proofs.found.present_found.Goals.{then-not-is_left_out, else-not-is_left_out}
use Rattle.dist_future.proofs.found.present_found.Goals as goal

-- the offer at a place
abbrev offer_at : List Offer → ℕ → Offer
offer_at offers i = get_or offers i (record { number = 0; place = 0 })

pub loop-offer-preserved : goal.loop-offer-preserved
loop-offer-preserved c =
    let s = c.args.space.now in
    let values = c.args.members.now in
    let atom = c.args.atom.now in
    let offers = c.args.offers.now in
    let i = c.loop-offer.offer-index in
    let is = slice_get-get_or offers i (record { number = 0; place = 0 }) c.loop-offer-test.true in
    let One : ℕ → ℕ → Type 0 = OfferedAt s values atom c.args.but offers in
    let Of : Option ℕ → Type 0 = IsLeastIfAny (Before One (i + 1)) in
    elim c.if-not-is_left_out.branch [
      | then-not-is_left_out w ↦ subst Of (sym w.least-is)
          (least-more One i c.loop-offer.least w.present_one.result w.lesser-least.result w.lesser-least.ensures c.loop-offer.invariant
          (present-one s values atom c.args.but offers i w.present_one.result (offer_at offers i) is
          (λ left. false≢true (w.if-not-is_left_out.ensures.1 left)) w.present_one.ensures))
      | else-not-is_left_out w ↦ subst Of (sym w.least-is) (least-skip One i c.loop-offer.least
          (λ v. none-left s values atom c.args.but offers i v (offer_at offers i) is (w.if-not-is_left_out.ensures.0 refl)) c.loop-offer.invariant)
    ]

pub returns : goal.returns
returns c =
    offered-all c.args.space.now c.args.members.now c.args.atom.now c.args.but c.args.offers.now c.loop-offer.offer-index c.loop-offer.least
    c.requires.matched c.loop-offer-test.false c.loop-offer.invariant

pub present_one-requires-clause-matched : goal.present_one-requires-clause-matched
present_one-requires-clause-matched c =
    let offers = c.args.offers.now in
    let i = c.loop-offer.offer-index in
    let offer = offer_at offers i in
    let is = slice_get-get_or offers i (record { number = 0; place = 0 }) c.loop-offer-test.true in
    (c.requires.matched offer.number).0 (any-at (λ (o : Offer). o.number ≡ offer.number) offers i offer is refl)
