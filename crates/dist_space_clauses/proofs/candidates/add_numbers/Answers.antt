use Rattle.std.proofs.Common.{arith, get_or}
use Rattle.std.proofs.lemmas.Option.{slice_get-get_or}
use Rattle.dist_repo.specs.declared.offers.Offer.{Offer}
use Rattle.dist_space_clauses.proofs.CandidateLemmas.{numbers-all, numbers-more, numbers-none}
use Rattle.dist_space_clauses.proofs.candidates.add_numbers.Goals as goal

pub loop-offer-init : goal.loop-offer-init
loop-offer-init c = numbers-none c.args.numbers.now.items c.args.offers.now

pub loop-offer-preserved : goal.loop-offer-preserved
loop-offer-preserved c =
    let offers = c.args.offers.now in
    let d : Offer = record { number = 0; place = 0 } in
    let i = c.loop-offer.offer-index in
    rw c.in_ok-push.ensures.items
    (numbers-more c.args.numbers.now.items c.loop-offer.numbers.items offers i (get_or offers i d) (slice_get-get_or offers i d c.loop-offer-test.true)
    c.loop-offer.invariant)

pub returns : goal.returns
returns c =
    numbers-all c.args.numbers.now.items c.loop-offer.numbers.items c.args.offers.now c.loop-offer.offer-index (omega (arith, c.loop-offer-test.false))
    c.loop-offer.invariant
