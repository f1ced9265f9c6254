use Rattle.std.proofs.Common.{refl}
use Rattle.dist_now.proofs.MatchedLemmas.{matched-within, member-matched, none-met, none-more, offer_at, offer-is}
use Rattle.dist_now.proofs.members.is_offer_met.Goals as goal

pub is_member-requires-clause-number : goal.is_member-requires-clause-number
is_member-requires-clause-number c =
    let offers = c.matched-offers.result.now in
    let i = c.loop-offer.offer-index in
    matched-within c.args.repo.now c.args.atom.now offers c.matched-offers.ensures i (offer_at offers i) (offer-is offers i c.loop-offer-test.true)

pub loop-offer-preserved : goal.loop-offer-preserved
loop-offer-preserved c =
    let offers = c.matched-offers.result.now in
    let i = c.loop-offer.offer-index in
    none-more c.args.members.now offers i (offer_at offers i) (offer-is offers i c.loop-offer-test.true)
    (λ member. let is = c.if-is_member.ensures.1 member in cc) c.loop-offer.invariant

pub returns-then-is_member : goal.returns-then-is_member
returns-then-is_member c =
    let offers = c.matched-offers.result.now in
    let i = c.loop-offer.offer-index in (
      (λ _. member-matched c.args.repo.now c.args.atom.now offers c.matched-offers.ensures c.args.members.now i (offer_at offers i)
          (offer-is offers i c.loop-offer-test.true) (c.if-is_member.ensures.0 refl)),
      λ _. refl,
    )

pub returns : goal.returns
returns c = (
  λ is. cc,
  λ any. absurd (none-met c.args.repo.now c.args.members.now c.args.atom.now c.matched-offers.result.now c.loop-offer.offer-index c.matched-offers.ensures
      c.loop-offer-test.false c.loop-offer.invariant any),
)
