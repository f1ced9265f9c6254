use Rattle.std.proofs.Common.{◌≡◌, arith, get_or}
use Rattle.std.specs.Prelude.{Any}
use Rattle.std.proofs.lemmas.List.{get_or_default}
use Rattle.std.proofs.lemmas.Option.{slice_get-get_or}
use Rattle.dist_repo.specs.declared.offers.Offer.{Offer}
use Rattle.dist_space_clauses.specs.GatheringPrivate.{IsPresentMatched}
use Rattle.dist_space.specs.declared.meaning.Meaning.{Meaning}
use Rattle.dist_space.specs.declared.meaning.Meaning.TheVariants.{Present}
use Rattle.dist_space_clauses.proofs.Gathered.{each-more, each-none, each-whole, gathers-weaker}
use Rattle.dist_space_clauses.proofs.PresentLemmas.{matched-within, offer-matched, present-of, present-offered}
use Rattle.dist_space_clauses.proofs.items.add_offered.Goals as goal

pub add_variable-requires : goal.add_variable-requires
add_variable-requires c =
    let s = c.args.space.now in
    let atom = c.args.atom.now in
    let offers = c.args.offers.now in
    let d : Offer = record { number = 0; place = 0 } in
    let i = c.loop-offer.offer-index in
    let offer = get_or offers i d in
    matched-within s atom offer.number
    (offer-matched s atom offers c.requires offer (i, c.loop-offer-test.true, get_or_default offers i offer d c.loop-offer-test.true))

pub loop-offer-init : goal.loop-offer-init
loop-offer-init c =
    let s = c.args.space.now in
    let Of : Offer → Meaning → Type 0 = λ offer m. m ≡ Present offer.number in
    each-none s (IsPresentMatched s c.args.atom.now) Of c.args.offers.now c.args.variables.now.items

pub loop-offer-preserved : goal.loop-offer-preserved
loop-offer-preserved c =
    let s = c.args.space.now in
    let atom = c.args.atom.now in
    let offers = c.args.offers.now in
    let Of : Offer → Meaning → Type 0 = λ offer m. m ≡ Present offer.number in
    let d : Offer = record { number = 0; place = 0 } in
    let i = c.loop-offer.offer-index in
    let offer = get_or offers i d in
    let here = offer-matched s atom offers c.requires offer (i, c.loop-offer-test.true, get_or_default offers i offer d c.loop-offer-test.true) in
    each-more s (IsPresentMatched s atom) Of offers c.args.variables.now.items c.loop-offer.variables.items c.add_variable.new.variables.items i offer
    (slice_get-get_or offers i d c.loop-offer-test.true) c.loop-offer.invariant
    (gathers-weaker s c.loop-offer.variables.items c.add_variable.new.variables.items (Of offer) (IsPresentMatched s atom) (Of offer) (Of offer)
    (λ m is same. present-of s atom offer.number m here same) (λ m is same. same) c.in_ok-add_variable.ensures)

pub returns : goal.returns
returns c =
    let s = c.args.space.now in
    let atom = c.args.atom.now in
    let offers = c.args.offers.now in
    let P = IsPresentMatched s atom in
    let Of : Offer → Meaning → Type 0 = λ offer m. m ≡ Present offer.number in
    let old = c.args.variables.now.items in
    let new = c.loop-offer.variables.items in
    gathers-weaker s old new P P (λ m. Any (λ offer. Of offer m) offers) P (λ m is here. here)
    (λ m is here. present-offered s atom offers c.requires m here)
    (each-whole s P Of offers old new c.loop-offer.offer-index (omega (arith, c.loop-offer-test.false)) c.loop-offer.invariant)
